-- An application wakes drivers at once where it is due, and clears no kick.
use Rattle.std.proofs.Common.{◌≡◌, ℕ, ◌-◌, ◌/◌, ◌%◌, true, false, cond, ◌&&◌, eqb, List, [], ◌∷◌, ◌++◌, drop, refl, sym, ap, ◌∙◌, subst, arith, eq-eqb}
use Rattle.std.proofs.lemmas.List.Sums.{fold_push}
use Rattle.xsk_turns.proofs.Object.{Config, classes_of}
use Rattle.xsk_turns.proofs.Calls.{Told, with_told, Mark, TxDone, Call, Swap, Look, Reply, Submitted, Old}
use Rattle.xsk_model.specs.declared.call.Mark.TheVariants.{Kick, Closing}
use Rattle.xsk_turns.specs.AppLaw.{SetsKick, SetsKicks, OnlySetsKicks, kick_of, flag_due, due_after, due_step, due_of, IsFirstDue, WakesAtOnce}
use Rattle.xsk_turns.specs.AppOwned.{IsApp}
use Rattle.xsk_turns.specs.AppTurns.{AppKept, pair_of, app_turn, app_start_by}
use Rattle.xsk_turns.proofs.AppPlaces.{class_below, socket_driver}
use Rattle.xsk_turns.proofs.AppShut.{shut_mine, shut_driver}
use Rattle.xsk_turns.proofs.Walks.{Anything, meet_anything}
use Rattle.xsk_turns.proofs.AppWalk.{Stage, Waking, Looked, Kicking, TxTold, Shutting, Family, Point, LookNeed, KickDriver, call_at, tx_submitted, fill_submitted, told_tx_done, told_closing, looked_need, kicked, point_of, reply_of, begins, without_need, needs_none, needs_kick, told_quietly, told_both, closed_quietly, closed_kicks, AtCalls, AtEntries, AtSilent, Said, IsLaw, at_call, of_run}

-- ---- it clears no kick

sets_more : (l : List Told) (call : Call) (reply : Reply) → SetsKicks l → SetsKick call → SetsKicks (with_told l call reply)
sets_more [] call reply h k = (k, tt)
sets_more (t ∷ l) call reply h k = (h.0, sets_more l call reply h.1 k)

module _ (c : Config) (a : ℕ) where
  abbrev pub Sets : Family
  Sets place noted kept l = SetsKicks l

  abbrev pub SetsSaid : Said
  SetsSaid kept call l = SetsKicks l

  abbrev pub SetsAtEnd : AppKept → List Told → Type 0
  SetsAtEnd kept l = SetsKicks l

  call_sets : (p : Point) (kept : AppKept) → SetsKick (call_at c a p kept)
  call_sets (KickDriver place pair) kept = refl
  call_sets p kept = tt

  pub sets : IsLaw c a Anything Sets SetsSaid SetsAtEnd
  sets = record {
    calls = λ p noted kept l known h. h;
    entries = λ e noted kept l known h asked q. sets_more l (call_at c a (point_of e) kept) (reply_of e) h (call_sets (point_of e) kept);
    silent = sets_silent;
    ends = λ noted kept l done h. h;
  }
    where
      sets_silent : AtSilent c a Sets
      sets_silent begins noted kept l = λ h e. h
      sets_silent p noted kept l = λ h e. h

pub only_sets_kicks : OnlySetsKicks
only_sets_kicks m c a l one run =
    of_run c a one Anything (Sets c a) (SetsSaid c a) (SetsAtEnd c a) (sets c a) (app_start_by m c) tt l (meet_anything (app_turn c a) (app_turn c a (app_start_by m c)) [] l) (λ m. SetsKicks m)
    (λ kept m h. h) (λ kept call m h. h) (λ kept m h. h) run

-- ---- it wakes drivers at once

module _ (c : Config) (a : ℕ) (one : IsApp c a) (wakeup : c.wakeup ≡ true) where
  -- the calls that are due at a place
  abbrev due_at : Stage → List Call
  due_at (Waking place need pair) = Look need ∷ due_at place
  due_at (Looked place need pair n) = cond (eqb n 1) (kick_of pair) [] ++ due_at place
  due_at (Kicking place pair) = kick_of pair ++ due_at place
  due_at TxTold = kick_of (pair_of c a 0) ++ kick_of (pair_of c a 1)
  due_at (Shutting shut) = kick_of (pair_of c a shut.side)
  due_at place = []

  -- the flag is that of a ring of the pair's driver
  abbrev IsFlagOf : Mark → ℕ → Type 0
  IsFlagOf need pair = (n : ℕ) → flag_due c need (Old n) ≡ cond (eqb n 1) (kick_of pair) []

  abbrev HasFlags : Stage → Type 0
  HasFlags (Waking place need pair) = IsFlagOf need pair × HasFlags place
  HasFlags (Looked place need pair n) = HasFlags place
  HasFlags (Kicking place pair) = HasFlags place
  HasFlags place = Unit {0}

  abbrev At : Family
  At place noted kept l = (due_of c a l ≡ due_at place) × HasFlags place

  abbrev Asked : Said
  Asked kept call l = IsFirstDue call (due_of c a l)

  abbrev Ended : AppKept → List Told → Type 0
  Ended kept l = Unit {0}

  due_told : (l : List Told) (call : Call) (reply : Reply) → due_of c a (with_told l call reply) ≡ due_after c a call reply ++ drop 1 (due_of c a l)
  due_told l call reply = fold_push (due_step c a) [] l (record { call = call; reply = reply })

  -- after a call, by what was due before it
  follows : (l : List Told) (call : Call) (reply : Reply) (due : List Call) → due_of c a l ≡ due → due_of c a (with_told l call reply) ≡ due_after c a call reply ++ drop 1 due
  follows l call reply due e = due_told l call reply ∙ ap (λ ds. due_after c a call reply ++ drop 1 ds) e

  first_due : (l : List Told) (call : Call) (due : List Call) → due_of c a l ≡ due → IsFirstDue call due → IsFirstDue call (due_of c a l)
  first_due l call due e h = subst (IsFirstDue call) (sym e) h

  calls : AtCalls c a At Asked
  calls (LookNeed place need pair) noted kept l known h = first_due l (Look need) (Look need ∷ due_at place) h.0 refl
  calls (KickDriver place pair) noted kept l known h = first_due l (Swap (Kick pair) 1) (kick_of pair ++ due_at place) h.0 refl
  calls p noted kept l known h = first_due l (call_at c a p kept) [] h.0 tt

  entries : AtEntries c a Anything At Asked
  entries (tx_submitted lane) noted kept l known h asked q =
      let driver = socket_driver c a one (1 - lane / classes_of c) (lane % classes_of c) (omega arith) (class_below c a one lane) in
      (follows l _ Submitted [] h.0, (λ n. ap (λ d. cond (eqb n 1) (kick_of d) []) driver, tt))
  entries (fill_submitted side frame frames) noted kept l known h asked q = (follows l _ Submitted [] h.0, (λ n. refl, tt))
  entries (told_tx_done n) noted kept l known h asked q =
      (follows l (Swap (TxDone a) 1) (Old n) [] h.0 ∙ ap (λ b. cond (b && true) (kick_of (pair_of c a 0) ++ kick_of (pair_of c a 1)) [] ++ []) (eq-eqb a a refl), tt)
  entries (told_closing shut n) noted kept l known h asked q =
      (follows l (Swap (Closing shut.socket) 1) (Old n) [] h.0 ∙ ap (λ d. kick_of d ++ []) (shut_driver c a one shut (shut_mine c a shut known.0)), tt)
  entries (looked_need place need pair n) noted kept l known h asked q =
      (follows l (Look need) (Old n) (Look need ∷ due_at place) h.0 ∙ ap (λ ds. ds ++ due_at place) (h.1.0 n), h.1.1)
  entries (kicked place pair n) noted kept l known h asked q = (follows l (Swap (Kick pair) 1) (Old n) (kick_of pair ++ due_at place) h.0, h.1)
  entries e noted kept l known h asked q = (follows l (call_at c a (point_of e) kept) (reply_of e) [] h.0, tt)

  silent : AtSilent c a At
  silent (without_need place need pair) noted kept l = λ h off. absurd (let no : true ≡ false = sym wakeup ∙ off in cc)
  silent (needs_none place need pair n) noted kept l = λ h e. (h.0 ∙ ap (λ b. cond b (kick_of pair) [] ++ due_at place) e, h.1)
  silent (needs_kick place need pair n) noted kept l = λ h e. (h.0 ∙ ap (λ b. cond b (kick_of pair) [] ++ due_at place) e, h.1)
  silent told_quietly noted kept l = λ h off. absurd (let no : true ≡ false = sym wakeup ∙ off in cc)
  silent told_both noted kept l = λ h e. h
  silent (closed_quietly shut) noted kept l = λ h off. absurd (let no : true ≡ false = sym wakeup ∙ off in cc)
  silent (closed_kicks shut) noted kept l = λ h e. h
  silent p noted kept l = λ h e. h

  law : IsLaw c a Anything At Asked Ended
  law = record { calls = calls; entries = entries; silent = silent; ends = λ noted kept l done h. tt }

pub wakes_at_once : WakesAtOnce
wakes_at_once m c a l kept call rest one wakeup asks =
    at_call c a one Anything (At c a one wakeup) (Asked c a one wakeup) (Ended c a one wakeup) (law c a one wakeup) (app_start_by m c) (refl, tt) l (meet_anything (app_turn c a) (app_turn c a (app_start_by m c)) [] l)
    kept call rest asks
