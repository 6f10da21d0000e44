-- The first line that can't follow those before it.
use Rattle.std.proofs.Common.{◌≡◌, ◌≢◌, ℕ, suc, ◌+◌, ◌^◌, ◌<◌, ◌≤◌, Bool, false, List, [], ◌∷◌, ◌++◌, length, map, take, refl, sym, ap, subst, ◌∙◌, arith, append_assoc, append-nil, length-append}
use Rattle.std.specs.Prelude.{codes}
use Rattle.std.specs.Fmt.{decimal}
use Rattle.std.proofs.lemmas.List.{length-map, map-append}
use Rattle.std.proofs.Math.Seq.{take-append_seam}
use Rattle.xsk_umem.specs.Frame.{Frame}
use Rattle.xsk_umem.specs.declared.batch.Item.{Item}
use Rattle.xsk_model.specs.Config.{Config}
use Rattle.xsk_model.specs.Entry.{Entry, own}
use Rattle.xsk_model.specs.Legal.{IsLegal}
use Rattle.xsk_model.specs.History.{IsHistory, state_after}
use Rattle.xsk_model.specs.Opening.{opening}
use Rattle.xsk_model.specs.Stored.{stored, stored_entry}
use Rattle.xsk_model.specs.OtherWords.{bare_call, bare_reply}
use Rattle.xsk_model.specs.declared.call.Call.{Call}
use Rattle.xsk_model.specs.declared.call.Call.TheVariants.{Reserve, Submit, Peek, Release, Swap, Look}
use Rattle.xsk_model.specs.declared.call.Reply.{Reply}
use Rattle.xsk_model.specs.declared.call.Reply.TheVariants.{Granted, Full, Submitted, Items, Empty, Released, Old}
use Rattle.xsk_model.proofs.Histories.{history_first}
use Rattle.xsk_model.proofs.Replies.{history_entry}
use Rattle.xsk_model.proofs.Bodies.{bare_items}
use Rattle.xsk_model.proofs.CallTheorems.{bodies_dont_matter}
use Rattle.xsk_plain.specs.Engine.{Engine}
use Rattle.xsk_log.specs.Line.{who_text, ring_text, item_text, items_text, call_text, reply_text, line_of}
use Rattle.xsk_audit.specs.Reading.{Said, line_at}
use Rattle.xsk_audit.specs.Telling.{Timed, entries, journal_line, NeverFalls, TellHistory, last_of, IsMissed, Tells, AreTold, IsStuck, StopsAt, AreMade, AreSame, EndsAt}
use Rattle.xsk_audit.specs.Playing.{Plays}
use Rattle.xsk_audit.proofs.Numbers.{some-value}
use Rattle.xsk_audit.proofs.Alike.{bare_entry, own-alike, openings-alike, states-alike, replies-alike}
use Rattle.xsk_audit.proofs.Complete.{SameLines, same-lines, reads, read-alike}
use Rattle.xsk_audit.proofs.Sound.{Again, unstored}
use Rattle.xsk_log.proofs.StoredLines.{line_stored}

-- ---- a line tells no bytes

items-bare : (items : List Item) → items_text (bare_items items) ≡ items_text items
items-bare [] = refl
items-bare (x ∷ items) = ap (λ (t : List ℕ). item_text x ++ t) (items-bare items)

call-bare : (call : Call) → call_text (bare_call call) ≡ call_text call
call-bare (Reserve r n) = refl
call-bare (Submit r items) = ap (λ (t : List ℕ). codes "submit " ++ ring_text r ++ t) (items-bare items)
call-bare (Peek r n) = refl
call-bare (Release r n) = refl
call-bare (Swap m value) = refl
call-bare (Look m) = refl

reply-bare : (reply : Reply) → reply_text (bare_reply reply) ≡ reply_text reply
reply-bare Granted = refl
reply-bare (Full places) = refl
reply-bare Submitted = refl
reply-bare (Items items) = ap (λ (t : List ℕ). codes "items" ++ t) (items-bare items)
reply-bare Empty = refl
reply-bare Released = refl
reply-bare (Old value) = refl

line-bare : (pairs : ℕ) (e : Entry) → line_of pairs (bare_entry e) ≡ line_of pairs e
line-bare pairs e =
    λ i. who_text pairs e.who ++ codes " " ++ call-bare e.call i ++ codes " -> " ++ reply-bare e.reply i ++ codes "\n"

-- ---- the last of some lines

record IsSplit (pairs : ℕ) (xs : List (List ℕ)) (line : List ℕ) (timed : List Timed) : Type 0 where
  front : List Timed
  last : Timed
  is : timed ≡ front ++ last ∷ []
  lines : xs ≡ map (journal_line pairs) front
  last_line : line ≡ journal_line pairs last

split : (pairs : ℕ) (xs : List (List ℕ)) (line : List ℕ) (timed : List Timed) → xs ++ line ∷ [] ≡ map (journal_line pairs) timed → IsSplit pairs xs line timed
split pairs [] line [] e = absurd (cc)
split pairs [] line (t ∷ []) e = record { front = []; last = t; is = refl; lines = refl; last_line = cc }
split pairs [] line (t ∷ u ∷ timed) e = absurd (cc)
split pairs (x ∷ xs) line [] e = absurd (cc)
split pairs (x ∷ xs) line (t ∷ timed) e =
    let first : x ≡ journal_line pairs t = cc in
    let more : xs ++ line ∷ [] ≡ map (journal_line pairs) timed = cc in
    let rest = split pairs xs line timed more in
    record {
      front = t ∷ rest.front;
      last = rest.last;
      is = ap (λ (l : List Timed). t ∷ l) rest.is;
      lines = λ i. first i ∷ rest.lines i;
      last_line = rest.last_line;
    }

-- rounds up to the last, and the last
falls-front : (least : ℕ) (front : List Timed) (last : Timed) → NeverFalls least (front ++ last ∷ []) → NeverFalls least front × (last_of least front ≤ last.round) × (last.round < 2 ^ 64)
unfolding last_of
falls-front least [] last falls = (tt, falls.0, falls.1)
falls-front least (t ∷ front) last falls =
    let rest = falls-front t.round front last falls.2 in ((falls.0, falls.1, rest.0), rest.1, rest.2)

same-cut : {A : Type 0} (xs ys more other : List A) → xs ++ more ≡ ys ++ other → length xs ≡ length ys → more ≡ other
same-cut [] [] more other e n = e
same-cut [] (y ∷ ys) more other e n = absurd (omega (arith, n))
same-cut (x ∷ xs) [] more other e n = absurd (omega (arith, n))
same-cut {A} (x ∷ xs) (y ∷ ys) more other e n = let rest : xs ++ more ≡ ys ++ other = cc in same-cut xs ys more other rest (omega (arith, n))

told-length : (pairs : ℕ) (made : List (List ℕ)) (h : List Entry) → AreTold pairs made h → length made ≡ length h
told-length pairs [] [] told = refl
told-length pairs [] (e ∷ h) told = absurd told
told-length pairs (line ∷ made) [] told = absurd told
told-length pairs (line ∷ made) (e ∷ h) told = ap suc (told-length pairs made h told.1)

-- the line of an entry in the middle
record IsToldAt (pairs : ℕ) (made : List (List ℕ)) (h : List Entry) (e : Entry) : Type 0 where
  front : List (List ℕ)
  line : List ℕ
  later : List (List ℕ)
  is : made ≡ front ++ line ∷ later
  count : length front ≡ length h
  tells : Tells pairs line e

told-at : (pairs : ℕ) (made : List (List ℕ)) (h : List Entry) (e : Entry) (rest : List Entry) → AreTold pairs made (h ++ e ∷ rest) → IsToldAt pairs made h e
told-at pairs [] [] e rest told = absurd told
told-at pairs [] (x ∷ h) e rest told = absurd told
told-at pairs (line ∷ made) [] e rest told = record { front = []; line = line; later = made; is = refl; count = refl; tells = told.0 }
told-at pairs (line ∷ made) (x ∷ h) e rest told =
    let next = told-at pairs made h e rest told.1 in
    record {
      front = line ∷ next.front;
      line = next.line;
      later = next.later;
      is = ap (λ (l : List (List ℕ)). line ∷ l) next.is;
      count = ap suc next.count;
      tells = next.tells;
    }

-- ---- the line after those that are the same

module _ (c : Config) (frames fresh : List Frame) (h : List Entry) (front : List Timed) (last : Timed) (history : IsHistory c frames h) (legal : IsHistory c fresh (entries front ++ last.entry ∷ [])) where
  abbrev J : Timed → List ℕ
  J = journal_line (length c.pairs)

  before : IsHistory c fresh (entries front)
  before = history_first c fresh (entries front) (last.entry ∷ []) legal

  last_legal : IsLegal c (own last.entry.who (entries front)) last.entry.who last.entry.call
  last_legal = (history_entry c fresh (entries front) [] last.entry legal).0

  -- all calls were made, and its call is legal after them
  pub none-stuck : (line : List ℕ) → map bare_entry h ≡ map bare_entry (entries front) → last.round < 2 ^ 64 → line ≡ J last → IsStuck c h line → ⊥
  none-stuck line alike fits is stuck =
      stuck last fits
      (bodies_dont_matter c (own last.entry.who (entries front)) (own last.entry.who h) last.entry.who last.entry.call (own-alike last.entry.who (entries front) h (sym alike)) last_legal)
      is

  -- its call was made, and got the same reply
  pub none-missed : (first : List Entry) (e : Entry) (later : List Entry) (line : List ℕ) → h ≡ first ++ e ∷ later → map bare_entry first ≡ map bare_entry (entries front) → last.round < 2 ^ 64
      → line ≡ J last → Tells (length c.pairs) line e → line_of (length c.pairs) e ≡ line_of (length c.pairs) last.entry
  none-missed first e later line split_is alike fits is tells =
      let made : IsHistory c frames (first ++ e ∷ later) = subst (IsHistory c frames) split_is history in
      let here = history_entry c frames first later e made in
      let last_reply = (history_entry c fresh (entries front) [] last.entry legal).1 in
      let said = some-value _ _ (sym tells.1 ∙ ap (line_at (length c.pairs)) is ∙ reads c (own last.entry.who (entries front)) last legal.opened.config fits last_legal) in
      let who : e.who ≡ last.entry.who = ap (λ (s : Said). s.who) said in
      let call : bare_call e.call ≡ bare_call last.entry.call =
      read-alike c (own last.entry.who (entries front)) (own e.who first) last.entry.who e.call last.entry.call (ap (λ (s : Said). s.call) said)
      (subst (λ (w : ℕ). IsLegal c (own e.who first) w e.call) who here.0) last_legal in
      let states = states-alike c frames fresh first (entries front) (history_first c frames first (e ∷ later) made) before alike in
      let reply : bare_reply e.reply ≡ bare_reply last.entry.reply =
      ap bare_reply here.1 ∙ replies-alike c (state_after c frames first) (state_after c fresh (entries front)) e.call last.entry.call states call ∙ ap bare_reply (sym last_reply) in
      sym (line-bare (length c.pairs) e) ∙ (λ i. line_of (length c.pairs) (record { who = who i; call = call i; reply = reply i })) ∙ line-bare (length c.pairs) last.entry

pub take-next : (xs : List (List ℕ)) (line : List ℕ) (later : List (List ℕ)) → take (length xs + 1) (xs ++ line ∷ later) ≡ xs ++ line ∷ []
take-next [] line later = refl
take-next (x ∷ xs) line later =
    let e : length (x ∷ xs) + 1 ≡ suc (length xs + 1) = omega arith in
    rw e (ap (λ (l : List (List ℕ)). x ∷ l) (take-next xs line later))

entries-last : (front : List Timed) (last : Timed) (timed : List Timed) → timed ≡ front ++ last ∷ [] → entries timed ≡ entries front ++ last.entry ∷ []
entries-last front last timed is = ap entries is ∙ map-append (λ (t : Timed). t.entry) front (last ∷ [])

module _ (c : Config) (frames fresh : List Frame) (h : List Entry) (lines : List (List ℕ)) (timed : List Timed) (later : List Entry) (history : IsHistory c frames h) (made : AreMade c h lines)
    (log : stored c.geometry c.sg h ≡ entries timed ++ later) (falls : NeverFalls 0 timed) where
  again : Again c.geometry c.sg (length c.pairs) timed h later
  again = unstored c.geometry c.sg (length c.pairs) timed h later log

  again-length : length (entries again.again) ≡ length (map (journal_line (length c.pairs)) timed)
  again-length = length-map again.again (λ (t : Timed). t.entry) ∙ sym (length-map again.again (journal_line (length c.pairs))) ∙ ap length again.lines

  again-legal : IsHistory c frames (entries again.again)
  again-legal = history_first c frames (entries again.again) again.rest (subst (IsHistory c frames) again.split history)

  module _ (line : List ℕ) (left : List (List ℕ)) (front : List Timed) (last : Timed) (lines_are : lines ≡ map (journal_line (length c.pairs)) timed ++ line ∷ left)
      (missed : IsMissed (length c.pairs) later (last_of 0 timed) (line ∷ left)) (legal : IsHistory c fresh (entries front ++ last.entry ∷ []))
      (rounds : NeverFalls 0 front × (last_of 0 front ≤ last.round) × (last.round < 2 ^ 64)) (front_lines : map (journal_line (length c.pairs)) timed ≡ map (journal_line (length c.pairs)) front)
      (is : line ≡ journal_line (length c.pairs) last) where
    same : SameLines 0 again.again front
    same = same-lines c (opening c frames) (opening c fresh) [] [] 0 0 0 again.again front history.opened.config (openings-alike c frames fresh history.opened legal.opened)
        again-legal.legal (before c frames fresh h front last history legal).legal (again.falls 0 falls) rounds.0 (again.lines ∙ front_lines)

    all-made : again.rest ≡ [] → ⊥
    all-made none =
        let whole : h ≡ entries again.again = again.split ∙ ap (λ (l : List Entry). entries again.again ++ l) none ∙ append-nil (entries again.again) in
        let counts : length made.made ≡ length (map (journal_line (length c.pairs)) timed) = told-length (length c.pairs) made.made h made.told ∙ ap length whole ∙ again-length in
        let next : made.left ≡ line ∷ left = same-cut made.made (map (journal_line (length c.pairs)) timed) made.left (line ∷ left) (sym made.lines_are ∙ lines_are) counts in
        none-stuck c frames fresh h front last history legal line (ap (map bare_entry) whole ∙ same.alike) rounds.2 is (subst (StopsAt c h) next made.stops)

    more-made : (e : Entry) (rest : List Entry) → again.rest ≡ e ∷ rest → ⊥
    more-made e rest some =
        let split_is : h ≡ entries again.again ++ e ∷ rest = again.split ∙ ap (λ (l : List Entry). entries again.again ++ l) some in
        let t = told-at (length c.pairs) made.made (entries again.again) e rest (subst (AreTold (length c.pairs) made.made) split_is made.told) in
        let cut : t.front ++ (t.line ∷ (t.later ++ made.left)) ≡ map (journal_line (length c.pairs)) timed ++ line ∷ left =
        sym (append_assoc t.front (t.line ∷ t.later) made.left) ∙ ap (λ (l : List (List ℕ)). l ++ made.left) (sym t.is) ∙ sym made.lines_are ∙ lines_are in
        let here : t.line ≡ line = (
        let same-rest = same-cut t.front (map (journal_line (length c.pairs)) timed) (t.line ∷ (t.later ++ made.left)) (line ∷ left) cut (t.count ∙ again-length) in cc
        ) in
        let texts : line_of (length c.pairs) e ≡ line_of (length c.pairs) last.entry =
        none-missed c frames fresh h front last history legal (entries again.again) e rest line split_is same.alike rounds.2 is (subst (λ (l : List ℕ). Tells (length c.pairs) l e) here t.tells) in
        let text : journal_line (length c.pairs) last ≡ journal_line (length c.pairs) (record { round = last.round; entry = stored_entry c.geometry c.sg e }) =
        ap (λ (l : List ℕ). decimal last.round ++ codes " " ++ l) (sym texts ∙ sym (line_stored c.geometry c.sg (length c.pairs) e)) in
        let after : later ≡ stored_entry c.geometry c.sg e ∷ stored c.geometry c.sg rest = sym again.rest_is ∙ ap (stored c.geometry c.sg) some in
        missed last.round (stored_entry c.geometry c.sg e) (stored c.geometry c.sg rest) left after
        (omega (arith, rounds.1, again.lasts 0, same.last)) rounds.2 (ap (λ (l : List ℕ). l ∷ left) (is ∙ text))

    none-follows : ⊥
    none-follows = by again.rest refl
      where
        by : (rest : List Entry) → again.rest ≡ rest → ⊥
        by [] none = all-made none
        by (e ∷ rest) some = more-made e rest some

-- with the line after those that are the same, lines are no journal of a legal history
pub none-next : (c : Config) (frames fresh : List Frame) (h : List Entry) (lines left : List (List ℕ)) (timed : List Timed) (later : List Entry) → IsHistory c frames h → AreMade c h lines
    → stored c.geometry c.sg h ≡ entries timed ++ later → NeverFalls 0 timed → lines ≡ map (journal_line (length c.pairs)) timed ++ left → left ≢ []
    → IsMissed (length c.pairs) later (last_of 0 timed) left → TellHistory c fresh (take (length timed + 1) lines) → ⊥
none-next c frames fresh h lines [] timed later history made log falls lines_are some missed tells = absurd (some refl)
none-next c frames fresh h lines (line ∷ left) timed later history made log falls lines_are some missed tells =
    let J = journal_line (length c.pairs) in
    let first : take (length timed + 1) lines ≡ map J timed ++ line ∷ [] =
    ap (take (length timed + 1)) lines_are ∙ ap (λ (n : ℕ). take (n + 1) (map J timed ++ line ∷ left)) (sym (length-map timed J)) ∙ take-next (map J timed) line left in
    let s = split (length c.pairs) (map J timed) line tells.timed (sym first ∙ tells.told) in
    none-follows c frames fresh h lines timed later history made log falls line left s.front s.last lines_are missed
    (subst (IsHistory c fresh) (entries-last s.front s.last tells.timed s.is) tells.legal)
    (falls-front 0 s.front s.last (subst (NeverFalls 0) s.is tells.rounds)) s.lines s.last_line

-- ---- verdicts

pub ends-at : (c : Config) (engine : Engine) (pairs n : ℕ) (log : List Entry) (lines : List (List ℕ)) (whole : Bool) → AreSame pairs log lines n whole → whole ≡ false → Plays engine lines
    → log ≡ engine.log → engine.config ≡ c → pairs ≡ length c.pairs → EndsAt c lines n
ends-at c engine pairs n log lines whole same other plays shown config count =
    let made : AreMade c plays.history lines = subst (λ (d : Config). AreMade d plays.history lines) config plays.made in
    let history : IsHistory c plays.frames plays.history = subst (λ (d : Config). IsHistory d plays.frames plays.history) config plays.run.legal in
    let log_is : stored c.geometry c.sg plays.history ≡ entries same.timed ++ same.later =
    ap (λ (d : Config). stored d.geometry d.sg plays.history) (sym config) ∙ sym plays.run.log ∙ sym shown ∙ same.log_is in
    let lines_are : lines ≡ map (journal_line (length c.pairs)) same.timed ++ same.left = same.lines_are ∙ ap (λ (p : ℕ). map (journal_line p) same.timed ++ same.left) count in
    let missed : IsMissed (length c.pairs) same.later (last_of 0 same.timed) same.left = subst (λ (p : ℕ). IsMissed p same.later (last_of 0 same.timed) same.left) count (same.misses other) in
    let again = unstored c.geometry c.sg (length c.pairs) same.timed plays.history same.later log_is in
    let some = more-than-none same.left (same.goes_on other) in
    let front : take n lines ≡ map (journal_line (length c.pairs)) same.timed =
    (λ i. take ((same.count ∙ sym (length-map same.timed (journal_line (length c.pairs)))) i) (lines_are i)) ∙ take-append_seam (map (journal_line (length c.pairs)) same.timed) same.left in
    record {
      within = omega (arith, same.count, some, ap length lines_are, length-append (map (journal_line (length c.pairs)) same.timed) same.left, length-map same.timed (journal_line (length c.pairs)));
      legal = (
        plays.frames,
        record {
          timed = again.again;
          legal = history_first c plays.frames (entries again.again) again.rest (subst (IsHistory c plays.frames) again.split history);
          rounds = again.falls 0 same.rounds;
          told = front ∙ sym again.lines;
        },
      );
      next = λ legal.
          none-next c plays.frames legal.0 plays.history lines same.left same.timed same.later history made log_is same.rounds lines_are (same.goes_on other) missed
          (subst (λ (k : ℕ). TellHistory c legal.0 (take (k + 1) lines)) same.count legal.1);
    }
  where
    more-than-none : (ls : List (List ℕ)) → ls ≢ [] → 1 ≤ length ls
    more-than-none [] some = absurd (some refl)
    more-than-none (l ∷ ls) some = omega arith
