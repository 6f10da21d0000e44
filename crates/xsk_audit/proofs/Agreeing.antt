-- The line of which a reason is told is the first that can't follow those before it.
use Rattle.std.proofs.Common.{◌≡◌, ℕ, suc, ◌+◌, ◌^◌, ◌<◌, Some, List, [], ◌∷◌, ◌++◌, length, map, take, refl, sym, ap, subst, ◌∙◌, arith, append_assoc, append-nil, length-append}
use Rattle.std.specs.Prelude.{codes}
use Rattle.std.specs.Fmt.{decimal}
use Rattle.std.proofs.lemmas.List.{length-map, map-append}
use Rattle.std.proofs.Math.Seq.{take-append_seam}
use Rattle.xsk_umem.specs.Frame.{Frame}
use Rattle.xsk_umem.specs.declared.batch.XdpDesc.{XdpDesc}
use Rattle.xsk_model.specs.Config.{Config}
use Rattle.xsk_model.specs.Entry.{Entry, own}
use Rattle.xsk_model.specs.History.{IsHistory}
use Rattle.xsk_model.specs.Legal.{IsLegal}
use Rattle.xsk_model.specs.Numbers.{times}
use Rattle.xsk_model.specs.Object.{submitted}
use Rattle.xsk_model.specs.Stored.{stored, stored_entry}
use Rattle.xsk_model.specs.declared.call.Call.{Call as ACall}
use Rattle.xsk_model.proofs.Replies.{history_entry}
use Rattle.xsk_legal.proofs.Whys.{fails_not_legal}
use Rattle.xsk_log.specs.Line.{line_of}
use Rattle.xsk_log.proofs.StoredLines.{line_stored}
use Rattle.xsk_plain.specs.Engine.{Engine}
use Rattle.xsk_audit.specs.Lines.{lines_of, journal_of}
use Rattle.xsk_audit.specs.Reading.{line_at, read_call}
use Rattle.xsk_audit.specs.Shelf.{descs_of, needed}
use Rattle.xsk_audit.specs.Telling.{Timed, entries, journal_line, NeverFalls, TellHistory, last_of, AreTold, AreMade, IsMissed, IsStuck, EndsAt}
use Rattle.xsk_audit.specs.Why.{IsUnmade, IsBarred, IsReason, StopsFor, WhyIsOfVerdict}
use Rattle.xsk_audit.specs.declared.reasons.Reason.{Reason}
use Rattle.xsk_audit.specs.declared.reasons.Reason.TheVariants.{Form, Call, Frames, Reply, Round}
use Rattle.xsk_audit.proofs.Bodied.{legal-again}
use Rattle.xsk_audit.proofs.Complete.{read-descs, read-with, reads}
use Rattle.xsk_audit.proofs.Firsts.{none-next, take-next}
use Rattle.xsk_audit.proofs.Making.{line-says}
use Rattle.xsk_audit.proofs.Misses.{round-falls, stuck-illegal, stuck-unread, tells-made, told-push}
use Rattle.xsk_audit.proofs.Stocks.{needs}

-- ---- a call that isn't legal

unmade-illegal : (c : Config) (frames : List Frame) (h : List Entry) (who : ℕ) (told : ACall) (reason : Reason) → IsHistory c frames h → read_call told ≡ told → IsUnmade c h who told reason
    → (other : ACall) → read_call other ≡ told → IsLegal c (own who h) who other → ⊥
unmade-illegal c frames h who told Form history bare unmade other is legal = unmade
unmade-illegal c frames h who told (Call why) history bare unmade other is legal =
    let same : read_call unmade.call ≡ read_call other = unmade.told_is ∙ sym is in
    let again = legal-again c (own who h) who other (submitted unmade.call) history.opened.geometry (read-descs unmade.call other same) unmade.whole legal in
    fails_not_legal why c (own who h) who unmade.call unmade.fails (subst (IsLegal c (own who h) who) (sym (read-with unmade.call other same)) again)
unmade-illegal c frames h who told Frames history bare unmade other is legal =
    let n = unmade.frame in
    let descs : descs_of (submitted told) ≡ descs_of (submitted other) = sym (read-descs other told (is ∙ sym bare)) in
    omega (arith, needs c frames h [] who other legal n, ap (λ (ds : List XdpDesc). times n (needed c.geometry ds)) descs, unmade.lacks who)
unmade-illegal c frames h who told Reply history bare unmade other is legal = unmade
unmade-illegal c frames h who told Round history bare unmade other is legal = unmade

-- ---- lines as they are stored

module _ (c : Config) where
  one_stored : Timed → Timed
  one_stored t = record { round = t.round; entry = stored_entry c.geometry c.sg t.entry }

  all_stored : List Timed → List Timed
  all_stored [] = []
  all_stored (t ∷ timed) = one_stored t ∷ all_stored timed

  abbrev J : Timed → List ℕ
  J = journal_line (length c.pairs)

  entries-stored : (timed : List Timed) → entries (all_stored timed) ≡ stored c.geometry c.sg (entries timed)
  unfolding all_stored one_stored
  entries-stored [] = refl
  entries-stored (t ∷ timed) = ap (λ (es : List Entry). stored_entry c.geometry c.sg t.entry ∷ es) (entries-stored timed)

  line-stored : (t : Timed) → J (one_stored t) ≡ J t
  unfolding one_stored
  line-stored t = ap (λ (text : List ℕ). decimal t.round ++ codes " " ++ text) (line_stored c.geometry c.sg (length c.pairs) t.entry)

  lines-stored : (timed : List Timed) → map J (all_stored timed) ≡ map J timed
  unfolding all_stored
  lines-stored [] = refl
  lines-stored (t ∷ timed) = λ i. line-stored t i ∷ lines-stored timed i

  falls-stored : (least : ℕ) (timed : List Timed) → NeverFalls least timed → NeverFalls least (all_stored timed)
  unfolding all_stored one_stored
  falls-stored least [] falls = tt
  falls-stored least (t ∷ timed) falls = (falls.0, falls.1, falls-stored t.round timed falls.2)

  last-stored : (least : ℕ) (timed : List Timed) → last_of least (all_stored timed) ≡ last_of least timed
  unfolding last_of all_stored one_stored
  last-stored least [] = refl
  last-stored least (t ∷ timed) = last-stored t.round timed

  length-stored : (timed : List Timed) → length (all_stored timed) ≡ length timed
  unfolding all_stored
  length-stored [] = refl
  length-stored (t ∷ timed) = ap suc (length-stored timed)

  last-fits : (least : ℕ) (timed : List Timed) → least < 2 ^ 64 → NeverFalls least timed → last_of least timed < 2 ^ 64
  unfolding last_of
  last-fits least [] fits falls = fits
  last-fits least (t ∷ timed) fits falls = last-fits t.round timed falls.1 falls.2

  -- lines of a history are read as its calls
  told-lines : (frames : List Frame) (past : List Entry) (least : ℕ) (timed : List Timed) → IsHistory c frames (past ++ entries timed) → NeverFalls least timed
      → AreTold (length c.pairs) (map J timed) (entries timed)
  told-lines frames past least [] history falls = tt
  told-lines frames past least (t ∷ timed) history falls = (
    (t.round, reads c (own t.entry.who past) t history.opened.config falls.1 (history_entry c frames past (entries timed) t.entry history).0),
    told-lines frames (past ++ t.entry ∷ []) t.round timed (subst (IsHistory c frames) (sym (append_assoc past (t.entry ∷ []) (entries timed))) history) falls.2,
  )

  -- ---- the line behind

  module _ (frames fresh : List Frame) (timed : List Timed) (line : List ℕ) (legal : IsHistory c frames (entries timed)) (falls : NeverFalls 0 timed) where
    abbrev here : List (List ℕ)
    here = map J timed ++ line ∷ []

    none-behind : (h : List Entry) (later : List Entry) → IsHistory c frames h → AreMade c h here → stored c.geometry c.sg h ≡ stored c.geometry c.sg (entries timed) ++ later
        → IsMissed (length c.pairs) later (last_of 0 timed) (line ∷ []) → TellHistory c fresh here → ⊥
    none-behind h later history made log missed tells =
        let count : length (all_stored timed) ≡ length (map J timed) = length-stored timed ∙ sym (length-map timed J) in
        let whole : here ≡ take (length (all_stored timed) + 1) here = sym (ap (λ (n : ℕ). take (n + 1) here) count ∙ take-next (map J timed) line []) in
        none-next c frames fresh h here (line ∷ []) (all_stored timed) later history made
        (log ∙ ap (λ (es : List Entry). es ++ later) (sym (entries-stored timed)))
        (falls-stored 0 timed falls)
        (ap (λ (ls : List (List ℕ)). ls ++ line ∷ []) (sym (lines-stored timed)))
        (λ none. cc none)
        (subst (λ (n : ℕ). IsMissed (length c.pairs) later n (line ∷ [])) (sym (last-stored 0 timed)) missed)
        (subst (TellHistory c fresh) whole tells)

    stuck-behind : IsStuck c (entries timed) line → TellHistory c fresh here → ⊥
    stuck-behind stuck = none-behind (entries timed) [] legal
        (record { made = map J timed; left = line ∷ []; lines_are = refl; told = told-lines frames [] 0 timed legal falls; stops = stuck })
        (sym (append-nil (stored c.geometry c.sg (entries timed))))
        (λ round entry rest later is. absurd (cc is))

    made-behind : (e : Entry) (round : ℕ) → IsHistory c frames (entries timed ++ e ∷ []) → line_at (length c.pairs) line ≡ Some (record { round = round; who = e.who; call = read_call e.call })
        → IsMissed (length c.pairs) (stored_entry c.geometry c.sg e ∷ []) (last_of 0 timed) (line ∷ []) → TellHistory c fresh here → ⊥
    made-behind e round history tells missed = none-behind (entries timed ++ e ∷ []) (stored_entry c.geometry c.sg e ∷ []) history
        (record {
          made = here;
          left = [];
          lines_are = sym (append-nil here);
          told = told-push (length c.pairs) (map J timed) (entries timed) line e (told-lines frames [] 0 timed legal falls) (round, tells);
          stops = tt;
        })
        (map-append (stored_entry c.geometry c.sg) (entries timed) (e ∷ []))
        missed

    other-missed : (e : Entry) (right : List ℕ) (least : ℕ) → right ≡ line_of (length c.pairs) e → ((round : ℕ) → round < 2 ^ 64 → line ≡ decimal round ++ codes " " ++ right → ⊥)
        → IsMissed (length c.pairs) (stored_entry c.geometry c.sg e ∷ []) least (line ∷ [])
    other-missed e right least is other round entry rest later log low fits lines =
        let one : stored_entry c.geometry c.sg e ≡ entry = cc log in
        let text : line ≡ journal_line (length c.pairs) (record { round = round; entry = entry }) = cc lines in
        other round fits
        (text ∙ ap (λ (t : List ℕ). decimal round ++ codes " " ++ t) (ap (line_of (length c.pairs)) (sym one) ∙ line_stored c.geometry c.sg (length c.pairs) e ∙ sym is))

    barred-behind : (descs : List XdpDesc) (reason : Reason) → IsBarred c (entries timed) line descs reason → TellHistory c fresh here → ⊥
    barred-behind descs reason is =
        stuck-behind (stuck-illegal c (entries timed) line (length c.pairs) is.said legal.opened.config refl (sym is.says)
        (unmade-illegal c frames (entries timed) is.said.who is.said.call reason legal (line-says (length c.pairs) line is.said (sym is.says)) is.unmade))

-- ---- the line behind, and the object there

reason-behind : (engine : Engine) (frames fresh : List Frame) (timed : List Timed) (line : List ℕ) → IsHistory engine.config frames (entries timed) → NeverFalls 0 timed → (descs : List XdpDesc) (right : List ℕ)
    (reason : Reason) → IsReason engine frames (entries timed) (last_of 0 timed) line descs right reason → TellHistory engine.config fresh (map (journal_line (length engine.config.pairs)) timed ++ line ∷ []) → ⊥
reason-behind engine frames fresh timed line legal falls descs right Form is =
    let c = engine.config in
    stuck-behind c frames fresh timed line legal falls (stuck-unread c (entries timed) line (length c.pairs) legal.opened.config refl (sym is.0))
reason-behind engine frames fresh timed line legal falls descs right (Call why) is = barred-behind engine.config frames fresh timed line legal falls descs (Call why) is.0
reason-behind engine frames fresh timed line legal falls descs right Frames is = barred-behind engine.config frames fresh timed line legal falls descs Frames is.0
reason-behind engine frames fresh timed line legal falls descs right Reply is =
    let c = engine.config in
    let tells = tells-made (length c.pairs) (length c.pairs) line is.said is.entry refl (sym is.says) is.caller is.told in
    made-behind c frames fresh timed line legal falls is.entry tells.0 is.run.legal tells.1
    (other-missed c frames fresh timed line legal falls is.entry right (last_of 0 timed) is.right_is is.other)
reason-behind engine frames fresh timed line legal falls descs right Round is =
    let c = engine.config in
    let fits : is.timed.round < 2 ^ 64 = omega (arith, is.falls, last-fits c 0 timed (omega arith) falls) in
    let call = (history_entry c frames (entries timed) [] is.timed.entry is.run.legal).0 in
    let text : line ≡ decimal is.timed.round ++ codes " " ++ line_of (length c.pairs) is.timed.entry = is.line_is in
    made-behind c frames fresh timed line legal falls is.timed.entry is.timed.round is.run.legal
    (ap (line_at (length c.pairs)) is.line_is ∙ reads c (own is.timed.entry.who (entries timed)) is.timed legal.opened.config fits call)
    (round-falls (length c.pairs) (stored_entry c.geometry c.sg is.timed.entry ∷ []) (last_of 0 timed) is.timed.round (line ∷ []) [] line (line_of (length c.pairs) is.timed.entry) refl fits text is.falls)

stops-there : (engine : Engine) (lines : List (List ℕ)) (descs : List XdpDesc) (right : List ℕ) (n : ℕ) (reason : Reason) → StopsFor engine lines descs right n reason → EndsAt engine.config lines n
stops-there engine lines descs right n reason s =
    let lines1 = map (journal_line (length engine.config.pairs)) s.timed in
    let count : n ≡ length lines1 = s.count ∙ sym (length-map s.timed (journal_line (length engine.config.pairs))) in
    record {
      within = omega (arith, count, ap length s.lines_are, length-append lines1 (s.line ∷ s.later));
      legal = (
        s.frames,
        record {
          timed = s.timed;
          legal = s.legal;
          rounds = s.rounds;
          told = (λ i. take (count i) (s.lines_are i)) ∙ take-append_seam lines1 (s.line ∷ s.later);
        },
      );
      next = λ legal.
          reason-behind engine s.frames legal.0 s.timed s.line s.legal s.rounds descs right reason s.is
          (subst (TellHistory engine.config legal.0) ((λ i. take (count i + 1) (s.lines_are i)) ∙ take-next lines1 s.line s.later) legal.1);
    }

pub why-is-of-verdict : WhyIsOfVerdict
why-is-of-verdict engine text misfit told is = (is.n, is.line_is, stops-there engine (journal_of (lines_of text)) is.descs is.right is.n misfit.reason is.stops)
