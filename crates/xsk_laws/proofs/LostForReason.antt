-- Each packet that a driver lost has its reason, at each of its calls and at its end.
use Rattle.std.proofs.Common.{ℕ, ◌<◌, List, [], ◌∷◌, ◌++◌, refl, sym, subst, arith}
use Rattle.xsk_model.specs.Config.{IsConfig, classes_of}
use Rattle.xsk_model.specs.Entry.{Told, own}
use Rattle.xsk_model.specs.Steering.{driver_on, socket_on}
use Rattle.xsk_model.proofs.Seats.{IsAt, is_at}
use Rattle.xsk_turns.proofs.Disposing.{keeps_disposals, disposes_all}
use Rattle.xsk_turns.proofs.Fitting.{fit_in_history}
use Rattle.xsk_turns.proofs.Object.{Config}
use Rattle.xsk_turns.proofs.ScriptLemmas.{leaves_told}
use Rattle.xsk_turns.proofs.DriverWalk.{at_call, at_end}
use Rattle.xsk_turns.proofs.Walks.{MeetAlong}
use Rattle.xsk_turns.specs.Disposals.{Disposed}
use Rattle.xsk_turns.specs.KeptDisposals.{HasDisposed, finished_with}
use Rattle.xsk_turns.specs.Owned.{AllFit}
use Rattle.xsk_turns.specs.Script.{Script, ask, again, ended, never, begun, Leaves}
use Rattle.xsk_turns.specs.Turns.{Seat, Judged, Kept, seat_of, start, turn, IsWholeDriverRun}
use Rattle.xsk_turns.specs.declared.wire.Wire.{Wire}
use Rattle.xsk_laws.specs.Expected.{received_judged}
use Rattle.xsk_laws.proofs.Joined.{input_is}
use Rattle.xsk_laws.specs.Reasons.{AreReasoned, LosesForReason, LosesForReasonInHistories, LostForReason, LostForReasonInRuns}
use Rattle.xsk_laws.proofs.Reasons.{reasoned_passed}
use Rattle.xsk_laws.proofs.Asking.{Meets, At, Asked, Ended, law, first}

-- ---- what each call and its reply meet

module _ (wire : Wire) (c : Config) (pair : ℕ) (input : List Judged) where
  abbrev seat : Seat
  seat = seat_of wire c pair

  abbrev begins : Kept
  begins = start (classes_of c) input

  meet_from : (s : Script Kept) (past l : List Told) (left : Script Kept) → Leaves (turn seat) (turn seat begins) past s → Leaves (turn seat) s l left → AllFit c past l
      → MeetAlong (turn seat) (Meets wire c pair input) s past l
  meet_from (ask kept call rest) past [] left a e fit = tt
  meet_from (ask kept call rest) past (t ∷ l) left a e fit =
      let next = begun (turn seat) (rest t.reply) in
      let on : Leaves (turn seat) (turn seat begins) (past ++ t ∷ []) next =
      subst (λ x. Leaves (turn seat) (turn seat begins) (past ++ (record { call = x; reply = t.reply }) ∷ []) next) (sym e.0) (leaves_told (turn seat) begins kept call rest t.reply past a) in (
        (subst (λ x. HasDisposed seat input kept (finished_with past x)) (sym e.0) (keeps_disposals wire c pair input past kept call rest a), fit.0.0),
        meet_from next (past ++ t ∷ []) l left on e.1 fit.1,
      )
  meet_from (again kept) past l left a e fit = tt
  meet_from (ended kept) past l left a e fit = tt
  meet_from never past l left a e fit = tt

  meets : (l : List Told) (left : Script Kept) → AllFit c [] l → Leaves (turn seat) (turn seat begins) l left → MeetAlong (turn seat) (Meets wire c pair input) (turn seat begins) [] l
  meets l left fit e = meet_from (turn seat begins) [] l left refl e fit

-- ---- the laws

pub loses_for_reason : LosesForReason
loses_for_reason wire c d input l kept call rest fit asks =
    let seat = seat_of wire c d in
    let begins = start (classes_of c) input in
    let said = at_call seat (Meets wire c d input) (At wire c d input) (Asked wire c d input) (Ended wire c d input) (law wire c d input) begins (first wire c d input) l (meets wire c d input l (ask kept call rest) fit asks) kept call rest asks in
    subst (λ (x : Disposed). AreReasoned seat input l x.disposals) (keeps_disposals wire c d input l kept call rest asks).all (reasoned_passed seat input l kept.disposals kept.coming said)

pub loses_for_reason_in_histories : LosesForReasonInHistories
loses_for_reason_in_histories wire c d input frames h kept call rest history asks = loses_for_reason wire c d input (own d h) kept call rest (fit_in_history c frames h d history) asks

pub lost_for_reason : LostForReason
lost_for_reason wire c d input l kept fit ends =
    let seat = seat_of wire c d in
    let begins = start (classes_of c) input in
    let said = at_end seat (Meets wire c d input) (At wire c d input) (Asked wire c d input) (Ended wire c d input) (law wire c d input) begins (first wire c d input) l (meets wire c d input l (ended kept) fit ends) kept ends in
    subst (AreReasoned seat input l) (disposes_all wire c d input l kept ends).disposals said

pub lost_for_reason_in_runs : LostForReasonInRuns
lost_for_reason_in_runs hands manner wire c lists verdicts frames h p q run port queue =
    let e = driver_on c p q in
    let config : IsConfig c = run.history.opened.config in
    let some : 0 < classes_of c = let classes = run.regular.classes in omega (arith, classes) in
    let at : IsAt c p q 0 e (socket_on c p q 0) = is_at c p q 0 config run.regular port queue some in
    let input = received_judged c lists verdicts p q in
    let whole : IsWholeDriverRun wire c e input (own e h) =
    subst (λ (l : List Judged). IsWholeDriverRun wire c e l (own e h)) (input_is c lists verdicts p q 0 e (socket_on c p q 0) at) (run.drivers e at.pair_known) in
    lost_for_reason wire c e input (own e h) whole.0 (fit_in_history c frames h e run.history) whole.1
