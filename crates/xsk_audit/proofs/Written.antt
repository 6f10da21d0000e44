-- The journal of a legal history, as it is written line by line, is found legal, also behind a report.
use Rattle.std.proofs.Common.{◌≡◌, ℕ, ◌-◌, ◌^◌, ◌<◌, List, [], ◌∷◌, ◌++◌, length, map, true, refl, sym, ap, ◌∙◌, subst, inl, inr, append_assoc}
use Rattle.std.specs.Prelude.{codes, flat_map, nat_lt}
use Rattle.std.specs.Fmt.{decimal}
use Rattle.std.proofs.lemmas.Bool.{cases_Bool}
use Rattle.std.proofs.lemmas.List.{length-map}
use Rattle.xsk_umem.specs.Frame.{Frame}
use Rattle.xsk_umem.specs.declared.batch.Item.{Item}
use Rattle.xsk_umem.specs.declared.batch.XdpDesc.{XdpDesc}
use Rattle.xsk_model.specs.Config.{Config}
use Rattle.xsk_model.specs.History.{IsHistory}
use Rattle.xsk_model.specs.declared.call.Ring.{Ring}
use Rattle.xsk_model.specs.declared.call.Ring.TheVariants.{Fill, Comp, Rx, Tx}
use Rattle.xsk_model.specs.declared.call.Mark.{Mark}
use Rattle.xsk_model.specs.declared.call.Mark.TheVariants.{NeedFill, NeedTx, Kick, RxDone, Gone, TxDone, Cell, Closing, Acked, Bounced}
use Rattle.xsk_model.specs.declared.call.Call.{Call}
use Rattle.xsk_model.specs.declared.call.Call.TheVariants.{Reserve, Submit, Peek, Release, Swap, Look}
use Rattle.xsk_model.specs.declared.call.Reply.{Reply}
use Rattle.xsk_model.specs.declared.call.Reply.TheVariants.{Granted, Full, Submitted, Items, Empty, Released, Old}
use Rattle.xsk_log.specs.Line.{who_text, ring_text, mark_text, desc_text, item_text, items_text, call_text, reply_text}
use Rattle.xsk_audit.specs.Lines.{lines_of, begins_digit, journal_of}
use Rattle.xsk_audit.specs.Telling.{Timed, entries, journal_line, NeverFalls, AreLegal, IsVerdict}
use Rattle.xsk_audit.specs.declared.auditing.Verdicts.TheVariants.{Legal}
use Rattle.xsk_audit.proofs.Again.{digit-front}
use Rattle.xsk_audit.proofs.Feeds.{has_no_feed, no-feed-both, decimal-no-feed, IsLine, IsPassed, line-next}

-- ---- no line feed in a line but its last

named : (word : List ℕ) (n : ℕ) → has_no_feed word ≡ true → has_no_feed (word ++ decimal n) ≡ true
named word n h = no-feed-both word (decimal n) h (decimal-no-feed n)

ring-no-feed : (r : Ring) → has_no_feed (ring_text r) ≡ true
ring-no-feed (Fill n) = named (codes "fill.") n refl
ring-no-feed (Comp n) = named (codes "comp.") n refl
ring-no-feed (Rx n) = named (codes "rx.") n refl
ring-no-feed (Tx n) = named (codes "tx.") n refl

mark-no-feed : (m : Mark) → has_no_feed (mark_text m) ≡ true
mark-no-feed (NeedFill n) = named (codes "need.fill.") n refl
mark-no-feed (NeedTx n) = named (codes "need.tx.") n refl
mark-no-feed (Kick n) = named (codes "kick.") n refl
mark-no-feed (RxDone n) = named (codes "rxdone.") n refl
mark-no-feed (Gone n) = named (codes "gone.") n refl
mark-no-feed (TxDone n) = named (codes "txdone.") n refl
mark-no-feed (Cell port index) =
    let first = named (codes "cell.") port refl in
    named (codes "cell." ++ decimal port ++ codes ".") index (no-feed-both (codes "cell." ++ decimal port) (codes ".") first refl)
mark-no-feed (Closing n) = named (codes "closing.") n refl
mark-no-feed (Acked n) = named (codes "acked.") n refl
mark-no-feed (Bounced n) = named (codes "bounced.") n refl

desc-no-feed : (d : XdpDesc) → has_no_feed (desc_text d) ≡ true
desc-no-feed d =
    let addr = no-feed-both (decimal d.addr) (codes ":") (decimal-no-feed d.addr) refl in
    let len = named (decimal d.addr ++ codes ":") d.len addr in
    named (decimal d.addr ++ codes ":" ++ decimal d.len ++ codes ":") d.options (no-feed-both (decimal d.addr ++ codes ":" ++ decimal d.len) (codes ":") len refl)

items-no-feed : (items : List Item) → has_no_feed (items_text items) ≡ true
items-no-feed [] = refl
items-no-feed (x ∷ items) =
    no-feed-both (item_text x) (items_text items) (no-feed-both (codes " ") (desc_text x.desc) refl (desc-no-feed x.desc)) (items-no-feed items)

-- a word, and a text and a number behind it
counted : (word text : List ℕ) (n : ℕ) → has_no_feed word ≡ true → has_no_feed text ≡ true → has_no_feed (word ++ text ++ codes " " ++ decimal n) ≡ true
counted word text n h k = named (word ++ text ++ codes " ") n (no-feed-both (word ++ text) (codes " ") (no-feed-both word text h k) refl)

call-no-feed : (call : Call) → has_no_feed (call_text call) ≡ true
call-no-feed (Reserve r n) = counted (codes "reserve ") (ring_text r) n refl (ring-no-feed r)
call-no-feed (Submit r items) =
    no-feed-both (codes "submit " ++ ring_text r) (items_text items) (no-feed-both (codes "submit ") (ring_text r) refl (ring-no-feed r)) (items-no-feed items)
call-no-feed (Peek r n) = counted (codes "peek ") (ring_text r) n refl (ring-no-feed r)
call-no-feed (Release r n) = counted (codes "release ") (ring_text r) n refl (ring-no-feed r)
call-no-feed (Swap m value) = counted (codes "swap ") (mark_text m) value refl (mark-no-feed m)
call-no-feed (Look m) = no-feed-both (codes "look ") (mark_text m) refl (mark-no-feed m)

reply-no-feed : (reply : Reply) → has_no_feed (reply_text reply) ≡ true
reply-no-feed Granted = refl
reply-no-feed (Full free) = named (codes "full ") free refl
reply-no-feed Submitted = refl
reply-no-feed (Items items) = no-feed-both (codes "items") (items_text items) refl (items-no-feed items)
reply-no-feed Empty = refl
reply-no-feed Released = refl
reply-no-feed (Old value) = decimal-no-feed value

who-no-feed : (pairs who : ℕ) → has_no_feed (who_text pairs who) ≡ true
who-no-feed pairs who = elim (cases_Bool (nat_lt who pairs)) [
  | inl driver ↦ rw driver (named (codes "d") who refl)
  | inr application ↦ rw application (named (codes "a") (who - pairs) refl)
]

-- ---- lines

-- the text of an entry but for its line feed
abbrev body_of : ℕ → Timed → List ℕ
body_of pairs t = who_text pairs t.entry.who ++ codes " " ++ call_text t.entry.call ++ codes " -> " ++ reply_text t.entry.reply

body-no-feed : (pairs : ℕ) (t : Timed) → has_no_feed (body_of pairs t) ≡ true
body-no-feed pairs t =
    let who = no-feed-both (who_text pairs t.entry.who) (codes " ") (who-no-feed pairs t.entry.who) refl in
    let call = no-feed-both (who_text pairs t.entry.who ++ codes " ") (call_text t.entry.call) who (call-no-feed t.entry.call) in
    let arrow = no-feed-both (who_text pairs t.entry.who ++ codes " " ++ call_text t.entry.call) (codes " -> ") call refl in
    no-feed-both (who_text pairs t.entry.who ++ codes " " ++ call_text t.entry.call ++ codes " -> ") (reply_text t.entry.reply) arrow (reply-no-feed t.entry.reply)

entry-line : (pairs : ℕ) (t : Timed) → IsLine (journal_line pairs t)
entry-line pairs t =
    let round : List ℕ = decimal t.round ++ codes " " in (
      round ++ body_of pairs t,
      sym (append_assoc round (body_of pairs t) (10 ∷ [])),
      no-feed-both round (body_of pairs t) (no-feed-both (decimal t.round) (codes " ") (decimal-no-feed t.round) refl) (body-no-feed pairs t),
    )

-- the text of entries with their rounds is cut into their lines
lines-written : (pairs : ℕ) (timed : List Timed) → lines_of (flat_map (journal_line pairs) timed) ≡ map (journal_line pairs) timed
unfolding lines_of
lines-written pairs [] = refl
lines-written pairs (t ∷ timed) =
    line-next (journal_line pairs t) (flat_map (journal_line pairs) timed) (entry-line pairs t) ∙ ap (λ ls. journal_line pairs t ∷ ls) (lines-written pairs timed)

-- and all of these are a journal's
begins-entry : (pairs : ℕ) (t : Timed) → t.round < 2 ^ 64 → begins_digit (journal_line pairs t) ≡ true
begins-entry pairs t fits =
    let line : List ℕ = body_of pairs t ++ codes "\n" in
    ap begins_digit (append_assoc (decimal t.round) (codes " ") line) ∙ digit-front t.round fits (codes " " ++ line)

journal-written : (pairs least : ℕ) (timed : List Timed) → NeverFalls least timed → journal_of (map (journal_line pairs) timed) ≡ map (journal_line pairs) timed
unfolding journal_of
journal-written pairs least [] falls = refl
journal-written pairs least (t ∷ timed) falls = rw (begins-entry pairs t falls.1) refl

-- the journal of a legal history in rounds that never fall
pub written-legal : (c : Config) (frames : List Frame) (timed : List Timed) → IsHistory c frames (entries timed) → NeverFalls 0 timed
    → IsVerdict c (flat_map (journal_line (length c.pairs)) timed) (Legal (length timed))
written-legal c frames timed legal falls =
    let told = ap journal_of (lines-written (length c.pairs) timed) ∙ journal-written (length c.pairs) 0 timed falls in (
      (frames, record { timed = timed; legal = legal; rounds = falls; told = told }),
      sym (ap length told ∙ length-map timed (journal_line (length c.pairs))),
    )

-- and behind lines that are passed over
pub behind-legal : (c : Config) (report text : List ℕ) (n : ℕ) → IsPassed report → IsVerdict c text (Legal n) → IsVerdict c (report ++ text) (Legal n)
behind-legal c report text n passed is = (subst (AreLegal c) (sym (passed text)) is.0, is.1 ∙ ap length (sym (passed text)))
