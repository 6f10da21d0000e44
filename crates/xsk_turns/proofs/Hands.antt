-- What holds of an application's runs by any number of hands: along steps, and along the turns behind them.
use Rattle.std.proofs.Common.{◌≡◌, ◌⊎◌, ℕ, zero, suc, ◌<◌, true, false, Bool, Option, None, List, [], ◌∷◌, ◌++◌, refl, sym, subst}
use Rattle.xsk_model.specs.Config.{Config}
use Rattle.xsk_model.specs.Own.{submitted_of, peeked_of}
use Rattle.xsk_model.specs.declared.call.Ring.{Ring}
use Rattle.xsk_model.specs.declared.call.Mark.TheVariants.{Kick}
use Rattle.xsk_turns.proofs.Calls.{Told, Rx, Tx, Mark, TxDone, Call, Swap, Look, Reply}
use Rattle.xsk_turns.specs.Script.{Script, ask, again, ended, never, IsLive}
use Rattle.xsk_turns.specs.AppLaw.{AreAltered, SetsKicks, IsFlagged}
use Rattle.xsk_turns.specs.AppOwned.{IsApp}
use Rattle.xsk_turns.specs.AppSplit.{SplitStep, HasPlace, piece, LeavesOf, AreSteps, IsSplitRun, IsWholeSplitRun}
use Rattle.xsk_turns.specs.AppTurns.{AppKept, pair_of, rx_of, tx_of, lanes_of, app_turn, app_start, app_start_by}
use Rattle.xsk_turns.specs.Hands.{IsAppRunOf, IsWholeAppRunOf, HandsPassOn, HandsDrainRx, HandsSendNothingLate, HandsOnlySetKicks, SplitOwesNothing, StepPaysAtOnce}
use Rattle.xsk_turns.specs.Mangling.{plain}
use Rattle.xsk_turns.specs.Owned.{AllFit}
use Rattle.xsk_turns.specs.Wakes.{owes_on, owes_end}
use Rattle.xsk_turns.specs.declared.manner.Manner.{Manner}
use Rattle.xsk_turns.proofs.ScriptLemmas.{whole_run}
use Rattle.xsk_turns.proofs.Walks.{Fitting, Says}
use Rattle.xsk_turns.proofs.AppWalk.{IsLaw}
use Rattle.xsk_turns.proofs.AppShut.{none_drains}
use Rattle.xsk_turns.proofs.AppSplit.{Jumps, fit_cut, lanes_law, lanes_jumps, lanes_after_steps, after_steps, says_in_step, says_in_run, step_sends}
use Rattle.xsk_turns.proofs.AppLanes.{lanes_altered, drains_rx, nothing_sent_late}
use Rattle.xsk_turns.proofs.AppLanes as lanes
use Rattle.xsk_turns.proofs.AppPaying as paying
use Rattle.xsk_turns.proofs.AppWaking.{only_sets_kicks}
use Rattle.xsk_turns.proofs.AppWaking as waking

-- ---- the lanes

module _ (c : Config) (a : ℕ) (one : IsApp c a) (l : List Told) (fit : AllFit c [] l) where
  pub split_at_end : (is : IsWholeSplitRun c a l) → lanes.AtEnd plain c a is.run.0 l
  split_at_end is =
      let parts = fit_cut c [] is.steps is.later (subst (AllFit c []) is.cut fit) in
      let before = lanes_after_steps c a one is.closes is.split.0 is.steps is.kept parts.0 is.split.1 in
      subst (lanes.AtEnd plain c a is.run.0) (sym is.cut)
      (says_in_run c a one (lanes.At plain c a one) (lanes.Asked plain c a one) (lanes.Ended plain c a one) (lanes_law c a one is.closes) (lanes_jumps c a one is.closes) is.closes is.kept is.steps is.later (ended is.run.0) before parts.1 is.run.1)

split_silent : (m : Manner) (c : Config) (a : ℕ) (l : List Told) (lane : ℕ) → IsApp c a → AllFit c [] l → m.mangle ≡ None → IsWholeSplitRun c a l → lane < lanes_of c
    → AreAltered c.geometry m.mangle (peeked_of (Rx (rx_of c a lane)) l) (submitted_of (Tx (tx_of c a lane)) l)
split_silent m c a l lane one fit same run h =
    subst (λ (x : Option ℕ). AreAltered c.geometry x (peeked_of (Rx (rx_of c a lane)) l) (submitted_of (Tx (tx_of c a lane)) l)) (sym same) ((split_at_end c a one l fit run).all lane h (none_drains c a lane run.run.0 run.closes))

pub hands_pass_on : HandsPassOn
hands_pass_on zero m c a l lane one fit run h stays = split_silent m c a l lane one fit run.0 run.1 h
hands_pass_on (suc zero) m c a l lane one fit run h stays = lanes_altered m c a l lane one run h stays
hands_pass_on (suc (suc hands)) m c a l lane one fit run h stays = split_silent m c a l lane one fit run.0 run.1 h

pub hands_drain_rx : HandsDrainRx
hands_drain_rx zero m c a l lane one fit run h = (split_at_end c a one l fit run.1).drained lane h
hands_drain_rx (suc zero) m c a l lane one fit run h = drains_rx m c a l lane one run h
hands_drain_rx (suc (suc hands)) m c a l lane one fit run h = (split_at_end c a one l fit run.1).drained lane h

pub hands_send_nothing_late : HandsSendNothingLate
hands_send_nothing_late zero m c a t l one fit run = (split_at_end c a one l fit run.1).lawful.late t
hands_send_nothing_late (suc zero) m c a t l one fit run = nothing_sent_late m c a t l one (whole_run (app_turn c a) (app_start_by m c) l run)
hands_send_nothing_late (suc (suc hands)) m c a t l one fit run = (split_at_end c a one l fit run.1).lawful.late t

-- ---- the kicks

module _ (c : Config) (a : ℕ) (one : IsApp c a) where
  kicks_law : IsLaw c a (Fitting c) (waking.Sets c a) (waking.SetsSaid c a) (waking.SetsAtEnd c a)
  kicks_law =
      let on = waking.sets c a in
      record { calls = on.calls; entries = λ e noted kept l known h asked q. on.entries e noted kept l known h asked tt; silent = on.silent; ends = on.ends }

  kicks_jumps : Jumps (waking.Sets c a)
  kicks_jumps = record {
    to_lane = λ lane kept l h. h;
    from_lane = λ lane noted kept l h. h;
    to_side = λ side kept l h. h;
    from_side = λ side noted kept l h. h;
    to_marks = λ kept l h. h;
  }

  at_left : (left : Script AppKept) (l : List Told) → IsLive left
      → Says (record { begins = λ kept m. SetsKicks m; asks = λ kept call m. SetsKicks m; ends = λ kept m. SetsKicks m }) left l → SetsKicks l
  at_left (ask kept call rest) l live h = h
  at_left (again kept) l live h = h
  at_left (ended kept) l live h = h
  at_left never l live h = absurd live

  pub split_sets : (l : List Told) → AllFit c [] l → IsSplitRun c a l → SetsKicks l
  split_sets l fit is =
      let parts = fit_cut c [] is.steps is.later (subst (AllFit c []) is.cut fit) in
      let before = after_steps c a one (waking.Sets c a) (waking.SetsSaid c a) (waking.SetsAtEnd c a) kicks_law kicks_jumps is.closes is.split.0 (app_start c) [] is.steps is.kept refl tt parts.0 is.split.1 in
      subst SetsKicks (sym is.cut)
      (at_left is.run.0 (is.steps ++ is.later) is.run.2
      (says_in_run c a one (waking.Sets c a) (waking.SetsSaid c a) (waking.SetsAtEnd c a) kicks_law kicks_jumps is.closes is.kept is.steps is.later is.run.0 before parts.1 is.run.1))

pub hands_only_set_kicks : HandsOnlySetKicks
hands_only_set_kicks zero m c a l one fit run = split_sets c a one l fit run.1
hands_only_set_kicks (suc zero) m c a l one fit run = only_sets_kicks m c a l one run
hands_only_set_kicks (suc (suc hands)) m c a l one fit run = split_sets c a one l fit run.1

-- a whole run is a run
pub whole_split_run : (c : Config) (a : ℕ) (l : List Told) → IsWholeSplitRun c a l → IsSplitRun c a l
whole_split_run c a l is = record { closes = is.closes; steps = is.steps; later = is.later; kept = is.kept; cut = is.cut; split = is.split; run = whole_run (app_turn c a) is.kept is.later is.run }

pub whole_run_of : (hands : ℕ) (m : Manner) (c : Config) (a : ℕ) (l : List Told) → IsWholeAppRunOf hands m c a l → IsAppRunOf hands m c a l
whole_run_of zero m c a l run = (run.0, whole_split_run c a l run.1)
whole_run_of (suc zero) m c a l run = whole_run (app_turn c a) (app_start_by m c) l run
whole_run_of (suc (suc hands)) m c a l run = (run.0, whole_split_run c a l run.1)

-- ---- wakes

or_less : (b : Bool) → (b ≡ true → ⊥) → b ≡ false
or_less true h = absurd (h refl)
or_less false h = refl

module _ (c : Config) (a : ℕ) (one : IsApp c a) (closes : c.closing ≡ None) (wakeup : c.wakeup ≡ true) where
  module _ (d : ℕ) (r : Ring) (flag : Mark) (is : IsFlagged c d r flag) where
    abbrev owing : List Told → Bool
    owing l = owes_on d r flag l

    owed_jumps : Jumps (paying.At c a one wakeup d r flag is)
    owed_jumps = record {
      to_lane = λ lane kept l h. h;
      from_lane = λ lane noted kept l h. h;
      to_side = λ side kept l h. h;
      from_side = λ side noted kept l h. h;
      to_marks = λ kept l h. h;
    }

    none_owed : (steps : List SplitStep) (l : List Told) (kept : AppKept) → AllFit c [] l → AreSteps c a steps (app_start c) l kept → owing l ≡ false
    none_owed steps l kept fit are =
        after_steps c a one (paying.At c a one wakeup d r flag is) (paying.Asked c a one wakeup d r flag is) (λ kept l. Unit {0}) (paying.law c a one wakeup d r flag is) owed_jumps closes steps (app_start c) [] l kept refl refl fit are

    paid : (past : List Told) (start : AppKept) (step : SplitStep) (l : List Told) (kept : AppKept) (call : Call) (rest : Reply → Script AppKept) → start.tx_done ≡ false → owing past ≡ false → HasPlace c step
        → AllFit c past l → LeavesOf (piece c a step start) l (ask kept call rest) → owing (past ++ l) ≡ true → (call ≡ Look flag) ⊎ (call ≡ Swap (Kick d) 1)
    paid past start step l kept call rest sends none place fit leaves =
        says_in_step c a one (paying.At c a one wakeup d r flag is) (paying.Asked c a one wakeup d r flag is) (λ kept l. Unit {0}) (paying.law c a one wakeup d r flag is) owed_jumps closes
        step start past l (ask kept call rest) place sends none fit leaves

  end_law : (side : ℕ) (below : side < 2) → IsLaw c a (Fitting c) (paying.AtTold c a one wakeup side below) (paying.AskedTold c a one wakeup side below) (λ kept l. Unit {0})
  end_law side below =
      let on = paying.told_law c a one wakeup side below in
      record { calls = on.calls; entries = λ e noted kept l known h asked q. on.entries e noted kept l known h asked tt; silent = on.silent; ends = on.ends }

  end_jumps : (side : ℕ) (below : side < 2) → Jumps (paying.AtTold c a one wakeup side below)
  end_jumps side below = record {
    to_lane = λ lane kept l h. h;
    from_lane = λ lane noted kept l h. h;
    to_side = λ side kept l h. h;
    from_side = λ side noted kept l h. h;
    to_marks = λ kept l h. h;
  }

  none_owed_at_end : (steps : List SplitStep) (l : List Told) (kept : AppKept) (side : ℕ) → AllFit c [] l → AreSteps c a steps (app_start c) l kept → side < 2 → owes_end (pair_of c a side) (TxDone a) l ≡ false
  none_owed_at_end steps l kept side fit are below =
      or_less (owes_end (pair_of c a side) (TxDone a) l)
      (after_steps c a one (paying.AtTold c a one wakeup side below) (paying.AskedTold c a one wakeup side below) (λ kept l. Unit {0}) (end_law side below) (end_jumps side below) closes steps (app_start c) [] l kept refl (λ o. absurd (cc)) fit are)

pub split_owes_nothing : SplitOwesNothing
split_owes_nothing c a l kept d r flag one closes wakeup fit split is =
    (none_owed c a one closes wakeup d r flag is split.0 l kept fit split.1, λ side below. none_owed_at_end c a one closes wakeup split.0 l kept side fit split.1 below)

-- ---- after steps it hasn't told that it sends nothing more

pub steps_send : (c : Config) (a : ℕ) (steps : List SplitStep) (start : AppKept) (l : List Told) (now : AppKept) → start.tx_done ≡ false → AreSteps c a steps start l now → now.tx_done ≡ false
steps_send c a [] start l now sends is = subst (λ (k : AppKept). k.tx_done ≡ false) (sym is.1) sends
steps_send c a (step ∷ steps) start l now sends is = steps_send c a steps is.2 is.1 now (step_sends c a step start is.0 is.2 sends is.4) is.5

pub step_pays_at_once : StepPaysAtOnce
step_pays_at_once c a past start step l kept call rest d r flag one closes wakeup fit split place leaves is =
    let parts = fit_cut c [] past l fit in
    paid c a one closes wakeup d r flag is past start step l kept call rest (steps_send c a split.0 (app_start c) past start refl split.1) (none_owed c a one closes wakeup d r flag is split.0 past start parts.0 split.1) place parts.1 leaves
