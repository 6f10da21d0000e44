-- What an application's calls and replies are, by how many hands make them: one hand runs its machine; several make steps, in any
-- order, and then one of them runs the machine from what they left. What holds of either is said here once. How hands take turns
-- is this project's own.
use Rattle.std.specs.Prelude.{◌≡◌, ℕ, zero, suc, ◌<◌, ◌⊎◌, true, false, None, List, [], ◌∷◌, ◌++◌, length}
use Rattle.xsk_model.specs.Config.{Config}
use Rattle.xsk_model.specs.Ends.{draining_of, telling_of}
use Rattle.xsk_model.specs.Entry.{Told}
use Rattle.xsk_model.specs.Own.{submitted_of, peeked_of}
use Rattle.xsk_model.specs.Rings.{caller_of}
use Rattle.xsk_model.specs.declared.call.Call.{Call}
use Rattle.xsk_model.specs.declared.call.Call.TheVariants.{Swap, Look}
use Rattle.xsk_model.specs.declared.call.Mark.{Mark}
use Rattle.xsk_model.specs.declared.call.Mark.TheVariants.{Kick, RxDone, TxDone}
use Rattle.xsk_model.specs.declared.call.Reply.{Reply}
use Rattle.xsk_model.specs.declared.call.Ring.{Ring}
use Rattle.xsk_model.specs.declared.call.Ring.TheVariants.{Rx, Tx}
use Rattle.xsk_turns.specs.Script.{Script, ask}
use Rattle.xsk_turns.specs.AppLaw.{StaysOpen, AreAltered, SetsKicks, IsFlagged}
use Rattle.xsk_turns.specs.AppOwned.{IsApp}
use Rattle.xsk_turns.specs.AppSplit.{SplitStep, HasPlace, piece, LeavesOf, IsSplit, IsSplitRun, IsWholeSplitRun}
use Rattle.xsk_turns.specs.AppTurns.{AppKept, pair_of, rx_of, tx_of, lanes_of, IsAppRunBy, IsWholeAppRunBy}
use Rattle.xsk_turns.specs.Owned.{AllFit}
use Rattle.xsk_turns.specs.Turns.{IsDriverRun, IsWholeDriverRun}
use Rattle.xsk_turns.specs.Wakes.{owes_on, owes_end}
use Rattle.xsk_turns.specs.Workers.{Setting, input_of}
use Rattle.xsk_turns.specs.declared.manner.Manner.{Manner}

-- ---- runs

-- a run of an application with this manner, and a whole one; several hands change nothing
abbrev pub IsAppRunOf : ℕ → Manner → Config → ℕ → List Told → Type 0
IsAppRunOf zero m c app l = (m.mangle ≡ None) × IsSplitRun c app l
IsAppRunOf (suc zero) m c app l = IsAppRunBy m c app l
IsAppRunOf (suc (suc hands)) m c app l = (m.mangle ≡ None) × IsSplitRun c app l

abbrev pub IsWholeAppRunOf : ℕ → Manner → Config → ℕ → List Told → Type 0
IsWholeAppRunOf zero m c app l = (m.mangle ≡ None) × IsWholeSplitRun c app l
IsWholeAppRunOf (suc zero) m c app l = IsWholeAppRunBy m c app l
IsWholeAppRunOf (suc (suc hands)) m c app l = (m.mangle ≡ None) × IsWholeSplitRun c app l

-- A caller's own calls and replies are a run, of the driver of its pair over the pair's packets, or of its application by so many
-- hands; and a whole one. With one hand they are a worker's run.
pub record IsRunOf (hands : ℕ) (s : Setting) (who : ℕ) (l : List Told) : Type 0 where
  pub driver : who < length s.config.pairs → IsDriverRun s.wire s.config who (input_of s who) l
  pub app : (a : ℕ) → who ≡ caller_of s.config a → IsAppRunOf hands s.manner s.config a l

pub record IsWholeRunOf (hands : ℕ) (s : Setting) (who : ℕ) (l : List Told) : Type 0 where
  pub driver : who < length s.config.pairs → IsWholeDriverRun s.wire s.config who (input_of s who) l
  pub app : (a : ℕ) → who ≡ caller_of s.config a → IsWholeAppRunOf hands s.manner s.config a l

-- ---- laws, by any number of hands

-- In a whole run of an application, for each lane that stays open, each item that is submitted is the one that was peeked in its place, as it was or
-- with one of its manner's changes: so where it changes nothing they are those, in order.
abbrev pub HandsPassOn : Type 0
HandsPassOn = (hands : ℕ) (m : Manner) (c : Config) (app : ℕ) (l : List Told) (lane : ℕ) → IsApp c app → AllFit c [] l → IsWholeAppRunOf hands m c app l → lane < lanes_of c → StaysOpen c app lane l
    → AreAltered c.geometry m.mangle (peeked_of (Rx (rx_of c app lane)) l) (submitted_of (Tx (tx_of c app lane)) l)

-- each lane's RX ring was found empty, after both drivers had told that they have no further packet
abbrev pub HandsDrainRx : Type 0
HandsDrainRx = (hands : ℕ) (m : Manner) (c : Config) (app : ℕ) (l : List Told) (lane : ℕ) → IsApp c app → AllFit c [] l → IsWholeAppRunOf hands m c app l → lane < lanes_of c
    → (draining_of (RxDone (pair_of c app 0) ∷ RxDone (pair_of c app 1) ∷ []) (Rx (rx_of c app lane)) l).empty ≡ true

-- and nothing was submitted on TX behind the Swap that tells that nothing more is sent
abbrev pub HandsSendNothingLate : Type 0
HandsSendNothingLate = (hands : ℕ) (m : Manner) (c : Config) (app t : ℕ) (l : List Told) → IsApp c app → AllFit c [] l → IsWholeAppRunOf hands m c app l
    → (telling_of (TxDone app) (Tx t) l).late ≡ false

-- a run of an application sets kicks, and clears none
abbrev pub HandsOnlySetKicks : Type 0
HandsOnlySetKicks = (hands : ℕ) (m : Manner) (c : Config) (app : ℕ) (l : List Told) → IsApp c app → AllFit c [] l → IsAppRunOf hands m c app l → SetsKicks l

-- ---- wakes in steps, where the need-wakeup flags are used

-- After steps no kick is owed, for a ring or for the end: so ends that no hand holds owe none.
abbrev pub SplitOwesNothing : Type 0
SplitOwesNothing = (c : Config) (app : ℕ) (l : List Told) (kept : AppKept) (d : ℕ) (r : Ring) (flag : Mark) → IsApp c app → c.closing ≡ None → c.wakeup ≡ true → AllFit c [] l → IsSplit c app l kept → IsFlagged c d r flag
    → (owes_on d r flag l ≡ false) × ((side : ℕ) → side < 2 → owes_end (pair_of c app side) (TxDone app) l ≡ false)

-- In a step it is paid at once: its next call is the look at the ring's flag, or the kick.
abbrev pub StepPaysAtOnce : Type 0
StepPaysAtOnce = (c : Config) (app : ℕ) (past : List Told) (start : AppKept) (step : SplitStep) (l : List Told) (kept : AppKept) (call : Call) (rest : Reply → Script AppKept) (d : ℕ) (r : Ring) (flag : Mark)
    → IsApp c app → c.closing ≡ None → c.wakeup ≡ true → AllFit c [] (past ++ l) → IsSplit c app past start → HasPlace c step → LeavesOf (piece c app step start) l (ask kept call rest) → IsFlagged c d r flag
    → owes_on d r flag (past ++ l) ≡ true → (call ≡ Look flag) ⊎ (call ≡ Swap (Kick d) 1)
