-- Lines that follow one another, and the first that doesn't.
use Rattle.std.proofs.Common.{◌≡◌, ℕ, ◌+◌, ◌<◌, ◌≤◌, inl, inr, All, Some, List, [], ◌∷◌, ◌++◌, length, map, take, sym, ap, subst, ◌∙◌, arith, append-nil, append_assoc}
use Rattle.std.specs.Prelude.{codes, slice_get, OnOk, Result, Ok, Err}
use Rattle.std.specs.Fmt.{decimal}
use Rattle.std.proofs.lemmas.Bool.{cases_lt}
use Rattle.std.proofs.lemmas.List.{length-map, map-append}
use Rattle.xsk_umem.specs.Frame.{Frame}
use Rattle.xsk_umem.specs.declared.batch.Item.{Item}
use Rattle.xsk_umem.specs.declared.batch.XdpDesc.{XdpDesc}
use Rattle.xsk_model.specs.Asks.{joined_call, HasAsked}
use Rattle.xsk_model.specs.Config.{Config}
use Rattle.xsk_model.specs.Entry.{Entry, own}
use Rattle.xsk_model.specs.History.{IsHistory, state_after}
use Rattle.xsk_model.specs.Numbers.{times, numbers}
use Rattle.xsk_model.specs.Object.{submitted}
use Rattle.xsk_model.specs.Own.{had_of}
use Rattle.xsk_model.specs.Stored.{stored, stored_entry}
use Rattle.xsk_model.specs.declared.ask.Ask.{Ask}
use Rattle.xsk_model.proofs.Histories.{history_sound}
use Rattle.xsk_model.proofs.Replies.{times-had}
use Rattle.xsk_legal.specs.Why.{Fails}
use Rattle.xsk_legal.specs.declared.why.Illegal.{Illegal}
use Rattle.xsk_legal.proofs.Whys.{fails_there}
use Rattle.xsk_log.specs.Line.{IsLineAt, line_of}
use Rattle.xsk_log.proofs.Places.{slice_get-end}
use Rattle.xsk_log.proofs.StoredLines.{line_stored}
use Rattle.xsk_plain.specs.Engine.{Engine}
use Rattle.xsk_plain.specs.Histories.{HasRun}
use Rattle.xsk_plain.proofs.Bare.{same_own}
use Rattle.xsk_audit.specs.Lines.{lines_of, journal_of, report_of}
use Rattle.xsk_audit.specs.Playing.{IsPlaying, IsMadeBy}
use Rattle.xsk_audit.specs.Reading.{Said, line_at, read_call}
use Rattle.xsk_audit.specs.Reasons.{reason_text}
use Rattle.xsk_audit.specs.Shelf.{Places, has, HasItsFrame, IsLent, Lacks, descs_of, needed}
use Rattle.xsk_audit.specs.Telling.{Timed, entries, journal_line, NeverFalls, last_of, AreLegal}
use Rattle.xsk_audit.specs.Why.{IsRefused, IsLacking, IsUnmade, IsReason, IsNext, GoesOn, IsBeside, StopsFor, IsMisfit}
use Rattle.xsk_audit.specs.declared.reasons.Reason.{Reason}
use Rattle.xsk_audit.specs.declared.reasons.Reason.TheVariants.{Form, Call, Frames, Reply, Round}
use Rattle.xsk_audit.specs.declared.why.Next.{Next}
use Rattle.xsk_audit.specs.declared.why.Next.TheVariants.{Follows, Fails as Stops}
use Rattle.xsk_audit.proofs.Asking.{asks-too}
use Rattle.xsk_audit.proofs.Making.{as-many, read-joined, submitted-joined}
use Rattle.xsk_audit.proofs.Numbers.{some-value}
use Rattle.xsk_audit.proofs.Shelves.{numbers-needed}
use Rattle.xsk_audit.proofs.Stocks.{at-most}

-- ---- a call that isn't made

module _ (engine : Engine) (places : Places) (frames : List Frame) (h : List Entry) (who : ℕ) (form : Ask) (told : List Item) (playing : IsPlaying engine places frames h) (asked : HasAsked form told) where
  had-here : (any n : ℕ) → times n (had_of (own any h)) ≤ has places n
  had-here any n = elim (cases_lt 0 (times n (had_of (own any h)))) [
    | inl some ↦ omega (arith, playing.stocked any n some, times-had engine.config frames (state_after engine.config frames h) h any n (history_sound engine.config frames h playing.run.legal))
    | inr none ↦ omega (arith, none)
  ]

  pub lacking : Lacks engine.config.geometry places (descs_of told) → IsLacking engine.config h (joined_call form told)
  lacking lacks =
      let all : descs_of told ≡ descs_of (submitted (joined_call form told)) = ap descs_of (sym (submitted-joined form told asked)) in
      record {
        frame = lacks.0;
        lacks = λ any. subst (λ (descs : List XdpDesc). times lacks.0 (had_of (own any h)) < times lacks.0 (needed engine.config.geometry descs)) all (omega (arith, lacks.1, had-here any lacks.0));
      }

  -- each frame that is lent some caller has
  had-all : (mid : Places) (items : List Item) → IsLent engine.config.geometry places mid (descs_of told) items → IsLacking engine.config h (joined_call form told) → ⊥
  had-all mid items lent lacking =
      let g = engine.config.geometry in
      let n = lacking.frame in
      let named : times n (needed g (descs_of (submitted (joined_call form told)))) ≡ times n (numbers items) =
      ap (λ (all : List Item). times n (needed g (descs_of all))) (submitted-joined form told asked) ∙ ap (λ (descs : List XdpDesc). times n (needed g descs)) (sym lent.descs_are) ∙ ap (times n) (sym (numbers-needed g items lent.frames)) in
      let here : has places n ≡ 1 = omega (arith, lacking.lacks 0, named, lent.left n, at-most places n) in
      let one = playing.had n here in
      omega (arith, one.1, lacking.lacks one.0, named, lent.left n, at-most places n)

  pub refused : (mid : Places) (items : List Item) (why : Illegal) → read_call (joined_call form told) ≡ joined_call form told → IsLent engine.config.geometry places mid (descs_of told) items
      → Fails why engine.config (own who engine.log) who (joined_call form items) → IsRefused engine.config h who (joined_call form told) why
  refused mid items why bare lent fails =
      let given : HasAsked form items = asks-too form items told (as-many told items lent.descs_are) asked in
      let here : Fails why engine.config (own who (stored engine.config.geometry engine.config.sg h)) who (joined_call form items) =
      subst (λ (log : List Entry). Fails why engine.config (own who log) who (joined_call form items)) playing.run.log fails in
      record {
        had = had-all mid items lent;
        call = joined_call form items;
        told_is = read-joined form told items lent.descs_are ∙ bare;
        whole = subst (λ (all : List Item). All (HasItsFrame engine.config.geometry) all) (sym (submitted-joined form items given)) lent.frames;
        fails = fails_there why engine.config (own who (stored engine.config.geometry engine.config.sg h)) (own who h) who (joined_call form items) (same_own engine.config.geometry engine.config.sg who h) here;
      }

-- ---- a line

pub barred : (engine : Engine) (frames : List Frame) (h : List Entry) (least : ℕ) (line : List ℕ) (descs : List XdpDesc) (right : List ℕ) (said : Said) (reason : Reason)
    → line_at (length engine.config.pairs) line ≡ Some said → descs ≡ descs_of (submitted said.call) → IsUnmade engine.config h said.who said.call reason → HasRun engine frames h
    → IsReason engine frames h least line descs right reason
barred engine frames h least line descs right said Form says are unmade run = absurd unmade
barred engine frames h least line descs right said (Call why) says are unmade run = (record { said = said; says = says; descs_are = are; unmade = unmade }, run)
barred engine frames h least line descs right said Frames says are unmade run = (record { said = said; says = says; descs_are = are; unmade = unmade }, run)
barred engine frames h least line descs right said Reply says are unmade run = absurd unmade
barred engine frames h least line descs right said Round says are unmade run = absurd unmade

-- the last line of a log
pub last-line : (engine : Engine) (frames : List Frame) (h : List Entry) (e : Entry) (pairs i : ℕ) (line : List ℕ) → HasRun engine frames (h ++ e ∷ []) → i ≡ length h → IsLineAt pairs engine.log i line
    → line ≡ line_of pairs e
last-line engine frames h e pairs i line run is at =
    let g = engine.config.geometry in
    let sg = engine.config.sg in
    let log : engine.log ≡ stored g sg h ++ stored_entry g sg e ∷ [] = run.log ∙ map-append (stored_entry g sg) h (e ∷ []) in
    let place : i ≡ length (stored g sg h) = is ∙ sym (length-map h (stored_entry g sg)) in
    let last : slice_get engine.log i ≡ Some (stored_entry g sg e) =
    (λ k. slice_get (log k) (place k)) ∙ slice_get-end (stored g sg h) (stored_entry g sg e) in
    let one : at.entry ≡ stored_entry g sg e = some-value at.entry (stored_entry g sg e) (sym at.at ∙ last) in
    at.is ∙ ap (line_of pairs) one ∙ line_stored g sg pairs e

pub goes-on : (engine : Engine) (shelf : Places) (frames : List Frame) (h : List Entry) (least : ℕ) (line right : List ℕ) (descs : List XdpDesc) (said : Said) (next : Next)
    → line_at (length engine.config.pairs) line ≡ Some said → (made : IsMadeBy engine shelf frames h said.who said.call) → engine.calls ≡ length h + 1 → right ≡ line_of (length engine.config.pairs) made.entry
    → IsBeside least line right next → GoesOn engine shelf frames h least line descs right next
goes-on engine shelf frames h least line right descs said (Follows round) says made calls is beside = record {
  entry = made.entry;
  playing = made.playing;
  calls = calls;
  line_is = beside.0 ∙ ap (λ (text : List ℕ). decimal round ++ codes " " ++ text) is;
  least_is = beside.1;
  fits = beside.2;
}
goes-on engine shelf frames h least line right descs said (Stops Form) says made calls is beside = absurd beside
goes-on engine shelf frames h least line right descs said (Stops (Call why)) says made calls is beside = absurd beside
goes-on engine shelf frames h least line right descs said (Stops Frames) says made calls is beside = absurd beside
goes-on engine shelf frames h least line right descs said (Stops Reply) says made calls is beside = record {
  said = said;
  says = says;
  entry = made.entry;
  caller = made.caller;
  told = made.told;
  run = made.playing.run;
  right_is = is;
  other = beside;
}
goes-on engine shelf frames h least line right descs said (Stops Round) says made calls is beside = record {
  timed = record { round = beside.0; entry = made.entry };
  run = made.playing.run;
  line_is = beside.1 ∙ ap (λ (text : List ℕ). decimal beside.0 ++ codes " " ++ text) is;
  falls = beside.2;
}

-- ---- lines

pub all-legal : (c : Config) (engine : Engine) (shelf : Places) (frames : List Frame) (timed : List Timed) (lines left : List (List ℕ)) → IsPlaying engine shelf frames (entries timed) → engine.config ≡ c
    → NeverFalls 0 timed → lines ≡ map (journal_line (length engine.config.pairs)) timed ++ left → left ≡ [] → AreLegal c lines
all-legal c engine shelf frames timed lines left playing config rounds are none = (
  frames,
  record {
    timed = timed;
    legal = subst (λ (d : Config). IsHistory d frames (entries timed)) config playing.run.legal;
    rounds = rounds;
    told =
        are ∙ ap (λ (ls : List (List ℕ)). map (journal_line (length engine.config.pairs)) timed ++ ls) none ∙ append-nil (map (journal_line (length engine.config.pairs)) timed)
        ∙ ap (λ (d : Config). map (journal_line (length d.pairs)) timed) config;
  },
)

pub stops-for : (engine new : Engine) (shelf : Places) (frames : List Frame) (timed : List Timed) (lines left later : List (List ℕ)) (least same : ℕ) (line right : List ℕ) (descs : List XdpDesc)
    (reason : Reason) → IsPlaying engine shelf frames (entries timed) → engine.config ≡ new.config → NeverFalls 0 timed → last_of 0 timed ≡ least → same ≡ length timed
    → lines ≡ map (journal_line (length engine.config.pairs)) timed ++ left → left ≡ line ∷ later → IsReason new frames (entries timed) least line descs right reason
    → StopsFor new lines descs right same reason
stops-for engine new shelf frames timed lines left later least same line right descs reason playing config rounds last count are first is = record {
  frames = frames;
  timed = timed;
  legal = subst (λ (d : Config). IsHistory d frames (entries timed)) config playing.run.legal;
  rounds = rounds;
  line = line;
  later = later;
  lines_are =
      are ∙ ap (λ (ls : List (List ℕ)). map (journal_line (length engine.config.pairs)) timed ++ ls) first
      ∙ ap (λ (d : Config). map (journal_line (length d.pairs)) timed ++ line ∷ later) config;
  count = count;
  is = subst (λ (n : ℕ). IsReason new frames (entries timed) n line descs right reason) (sym last) is;
}

pub stopped : (engine : Engine) (shelf : Places) (frames : List Frame) (h : List Entry) (least : ℕ) (line : List ℕ) (descs : List XdpDesc) (right : List ℕ) (next : Next) (reason : Reason)
    → GoesOn engine shelf frames h least line descs right next → next ≡ Stops reason → IsReason engine frames h least line descs right reason
stopped engine shelf frames h least line descs right next reason goes is = subst (GoesOn engine shelf frames h least line descs right) is goes

pub followed : (engine : Engine) (shelf : Places) (frames : List Frame) (h : List Entry) (least : ℕ) (line : List ℕ) (descs : List XdpDesc) (right : List ℕ) (next : Next) (round : ℕ)
    → GoesOn engine shelf frames h least line descs right next → next ≡ Follows round → IsNext engine shelf frames h least line round
followed engine shelf frames h least line descs right next round goes is = subst (GoesOn engine shelf frames h least line descs right) is goes

pub entries-more : (timed : List Timed) (t : Timed) → entries (timed ++ t ∷ []) ≡ entries timed ++ t.entry ∷ []
entries-more timed t = map-append (λ (t : Timed). t.entry) timed (t ∷ [])

-- what is told of the line of a text
pub misfit : (engine : Engine) (text : List ℕ) (passed same : ℕ) (journal : List (List ℕ)) (descs : List XdpDesc) (right : List ℕ) (reason : Reason) → passed ≡ length (report_of (lines_of text))
    → journal ≡ journal_of (lines_of text) → StopsFor engine journal descs right same reason
    → IsMisfit engine text (record { line = passed + same + 1; reason = reason }) (reason_text engine.config.geometry (take (passed + same) (lines_of text)) descs right reason)
misfit engine text passed same journal descs right reason report are stops = record {
  n = same;
  line_is = ap (λ (n : ℕ). n + same + 1) report;
  descs = descs;
  right = right;
  stops = subst (λ (ls : List (List ℕ)). StopsFor engine ls descs right same reason) are stops;
  told_is = ap (λ (n : ℕ). reason_text engine.config.geometry (take (n + same) (lines_of text)) descs right reason) report;
}

-- ---- texts

pub on-ok : {A E : Type 0} (r : Result A E) (P Q : Type 0) → (P → Q) → OnOk r P → OnOk r Q
on-ok (Ok a) P Q f h = f h
on-ok (Err e) P Q f h = tt

-- one piece after another
pub piece-after : (t a b u v : List ℕ) → u ≡ t ++ a → v ≡ u ++ b → v ≡ t ++ (a ++ b)
piece-after t a b u v e h = h ∙ ap (λ (text : List ℕ). text ++ b) e ∙ append_assoc t a b
