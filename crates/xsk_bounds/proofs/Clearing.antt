-- A driver clears its kick only where its last look saw it set, and sets none; an application sets kicks and clears none.
use Rattle.std.proofs.Common.{◌≡◌, ℕ, ◌<◌, inl, inr, true, false, eqb, List, [], ◌∷◌, ◌++◌, length, refl, ap, subst, ◌∙◌, ⊎_elim, arith, eq-eqb}
use Rattle.std.proofs.lemmas.Bool.{and_from}
use Rattle.std.proofs.lemmas.List.Sums.{fold_push}
use Rattle.xsk_umem.specs.Frame.{Frame}
use Rattle.xsk_model.specs.Config.{Config, IsRegular, classes_of}
use Rattle.xsk_model.specs.Marks.{apps_of}
use Rattle.xsk_model.specs.Rings.{caller_of, app_of, application_on, port_of, queue_of}
use Rattle.xsk_model.specs.Opening.{opening}
use Rattle.xsk_model.specs.declared.call.Ring.TheVariants.{Fill}
use Rattle.xsk_model.specs.Entry.{Told, Entry, told, own}
use Rattle.xsk_model.specs.Legal.{IsLegal}
use Rattle.xsk_model.specs.History.{GoesOn, IsHistory}
use Rattle.xsk_model.specs.declared.call.Mark.TheVariants.{Kick}
use Rattle.xsk_model.specs.declared.call.Call.{Call}
use Rattle.xsk_model.specs.declared.call.Call.TheVariants.{Swap, Look}
use Rattle.xsk_model.specs.declared.call.Reply.{Reply}
use Rattle.xsk_model.specs.declared.call.Reply.TheVariants.{Old}
use Rattle.xsk_model.proofs.Folds.{own-append, own-push_same}
use Rattle.xsk_model.proofs.Histories.{goes_rest}
use Rattle.xsk_turns.specs.Script.{Script, IsRun, Leaves, Asks}
use Rattle.xsk_turns.specs.Turns.{Judged, Kept, seat_of, start, turn, IsDriverRun}
use Rattle.xsk_turns.specs.AppTurns.{AppKept, app_turn, app_start_by, IsAppRunBy}
use Rattle.xsk_turns.specs.AppOwned.{IsApp}
use Rattle.xsk_turns.specs.declared.manner.Manner.{Manner}
use Rattle.xsk_turns.specs.declared.wire.Wire.{Wire}
use Rattle.xsk_turns.proofs.ScriptLemmas.{leaves_front, asked_last}
use Rattle.xsk_turns.proofs.Walks.{Anything, meet_anything}
use Rattle.xsk_turns.proofs.DriverStages.{Woken, Family, Said, ClearKick, kicked, none_comes, IsLaw, AtCalls, AtEntries, AtSilent}
use Rattle.xsk_turns.proofs.DriverWalk.{at_call}
use Rattle.xsk_turns.proofs.AppWalk as walk
use Rattle.xsk_bounds.specs.Totals.{saw_kick, saw_last}
use Rattle.xsk_bounds.proofs.Kicks.{KeepsKicks}

-- ---- a driver

-- a call that swaps a kick clears it, where the last look saw it set
abbrev pub Clears : ℕ → Call → List Told → Type 0
Clears d (Swap (Kick e) value) l = (value ≡ 0) × (saw_last d l ≡ true)
Clears d call l = Unit {0}

module _ (wire : Wire) (c : Config) (d : ℕ) where
  abbrev At : Family
  At (Woken frames) noted kept l = saw_last d l ≡ true
  At place noted kept l = Unit {0}

  abbrev Asked : Said
  Asked kept call l = Clears d call l

  calls : AtCalls (seat_of wire c d) Anything At Asked
  calls (ClearKick frames) noted kept l known h = (refl, h)
  calls p noted kept l known h = tt

  entries : AtEntries (seat_of wire c d) Anything At Asked
  entries (kicked frames n) noted kept l known found h a q =
      fold_push (λ before t. saw_kick d t) false l (record { call = Look (Kick d); reply = Old n }) ∙ and_from (eqb d d) (eqb n 1) (eq-eqb d d refl) found
  entries e noted kept l known found h a q = tt

  silent : AtSilent (seat_of wire c d) Anything At
  silent none_comes noted kept l = λ h e. tt
  silent p noted kept l = λ h e. tt

  law : IsLaw (seat_of wire c d) Anything At Asked (λ kept l. Unit {0})
  law = record { calls = calls; entries = entries; silent = silent; ends = λ noted kept l n known h a q. tt }

driver_clears : (wire : Wire) (c : Config) (d : ℕ) (input : List Judged) (l : List Told) (kept : Kept) (call : Call) (rest : Reply → Script Kept)
    → Asks (turn (seat_of wire c d)) (start (classes_of c) input) l kept call rest → Clears d call l
driver_clears wire c d input l kept call rest asks =
    at_call (seat_of wire c d) Anything (At wire c d) (Asked wire c d) (λ kept l. Unit {0}) (law wire c d) (start (classes_of c) input) tt l
    (meet_anything (turn (seat_of wire c d)) _ [] l) kept call rest asks

-- ---- an application

-- a call that swaps a kick sets it
abbrev pub Kicks : Call → Type 0
Kicks (Swap (Kick e) value) = value ≡ 1
Kicks call = Unit {0}

module _ (c : Config) (a : ℕ) where
  abbrev AppAt : walk.Family
  AppAt place noted kept l = Unit {0}

  abbrev AppAsked : walk.Said
  AppAsked kept call l = Kicks call

  app_calls : walk.AtCalls c a AppAt AppAsked
  app_calls (walk.KickDriver place pair) noted kept l known h = refl
  app_calls p noted kept l known h = tt

  app_silent : walk.AtSilent c a AppAt
  app_silent walk.no_lanes noted kept l = λ h e. tt
  app_silent p noted kept l = λ h e. tt

  app_law : walk.IsLaw c a Anything AppAt AppAsked (λ kept l. Unit {0})
  app_law = record { calls = app_calls; entries = λ e noted kept l known h asked q. tt; silent = app_silent; ends = λ noted kept l done h. tt }

app_kicks : (m : Manner) (c : Config) (a : ℕ) (one : IsApp c a) (l : List Told) (kept : AppKept) (call : Call) (rest : Reply → Script AppKept)
    → Asks (app_turn c a) (app_start_by m c) l kept call rest → Kicks call
app_kicks m c a one l kept call rest asks =
    walk.at_call c a one Anything (AppAt c a) (AppAsked c a) (λ kept l. Unit {0}) (app_law c a) (app_start_by m c) tt l
    (meet_anything (app_turn c a) _ [] l) kept call rest asks

-- ---- in a history

asked_at : {K : Type 0} (turn : K → Script K) (begins : K) (l : List Told) (t : Told) (more : List Told) → IsRun turn begins (l ++ t ∷ more)
    → (kept : K) × (rest : Reply → Script K) × Asks turn begins l kept t.call rest
asked_at turn begins l t more run =
    let all = leaves_front turn (turn begins) l (t ∷ more) run.0 run.1 in
    let one = leaves_front turn all.0 (t ∷ []) more run.0 all.2 in
    let asks = asked_last turn all.0 t one.0 one.1 in
    (asks.0, asks.1, subst (Leaves turn (turn begins) l) asks.2 all.1)

own_split : (who : ℕ) (past later : List Entry) (e : Entry) → e.who ≡ who → own who (past ++ e ∷ later) ≡ own who past ++ told e ∷ own who later
own_split who past later e mine =
    own-append who past (e ∷ later) ∙ ap (λ l. own who past ++ l) (own-append who (e ∷ []) later ∙ ap (λ l. l ++ own who later) (own-push_same who [] e mine))

-- the kicks of a history are swapped so where each caller's own calls are a run
module _ (m : Manner) (wire : Wire) (c : Config) (frames : List Frame) (h : List Entry) (input : ℕ → List Judged) (regular : IsRegular c) (history : IsHistory c frames h)
    (drivers : (d : ℕ) → d < length c.pairs → IsDriverRun wire c d (input d) (own d h))
    (apps : (a : ℕ) → a < apps_of c → IsAppRunBy m c a (own (caller_of c a) h)) where
  driver_keeps : (d : ℕ) (past later : List Entry) (e : Entry) (value : ℕ) → d < length c.pairs → h ≡ past ++ e ∷ later → e.call ≡ Swap (Kick d) value → e.who ≡ d
      → (value ≡ 0) × (saw_last d (own d past) ≡ true)
  driver_keeps d past later e value below split is mine =
      let run = subst (IsDriverRun wire c d (input d)) (ap (own d) split ∙ own_split d past later e mine) (drivers d below) in
      let asks = asked_at (turn (seat_of wire c d)) (start (classes_of c) (input d)) (own d past) (told e) (own d later) run in
      subst (λ (call : Call). Clears d call (own d past)) is (driver_clears wire c d (input d) (own d past) asks.0 e.call asks.1 asks.2)

  app_keeps : (d a : ℕ) (past later : List Entry) (e : Entry) (value : ℕ) → a < apps_of c → h ≡ past ++ e ∷ later → e.call ≡ Swap (Kick d) value → e.who ≡ caller_of c a → value ≡ 1
  app_keeps d a past later e value below split is mine =
      let who = caller_of c a in
      let run = subst (IsAppRunBy m c a) (ap (own who) split ∙ own_split who past later e mine) (apps a below) in
      let asks = asked_at (app_turn c a) (app_start_by m c) (own who past) (told e) (own who later) run in
      let one : IsApp c a = record { config = history.opened.config; regular = regular; geometry = history.opened.geometry; known = below } in
      subst Kicks is (app_kicks m c a one (own who past) asks.0 e.call asks.1 asks.2)

  pub keeps_kicks : (d : ℕ) → d < length c.pairs → KeepsKicks d h
  keeps_kicks d below past later e value split is =
      let goes = subst (λ l. GoesOn c (opening c frames) [] l) split history.legal in
      let legal = (goes_rest c (opening c frames) [] past (e ∷ later) goes).0 in
      let swap : IsLegal c (own e.who past) e.who (Swap (Kick d) value) = subst (IsLegal c (own e.who past) e.who) is legal in
      ⊎_elim
      (λ (mine : e.who ≡ d). let cleared = driver_keeps d past later e value below split is mine in inr (cleared.0, mine, cleared.1))
      (λ (other : e.who ≡ app_of c (Fill d)).
      inl (app_keeps d (application_on c (port_of c (Fill d)) (queue_of c (Fill d))) past later e value (omega (arith, swap.caller, other)) split is other))
      swap.role.0
