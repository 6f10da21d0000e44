-- What holds of every run of an application, and what of every whole one, by its turns alone.
use Rattle.std.specs.Prelude.{◌≡◌, ◌≢◌, ℕ, ◌+◌, ◌%◌, ◌<◌, ◌≤◌, ◌⊎◌, ◌==◌, ◌&&◌, true, false, if◌then◌else◌, Option, Some, None, List, [], ◌∷◌, ◌++◌, length, drop}
use Rattle.xsk_umem.specs.Geometry.{Geometry}
use Rattle.std.specs.List.{fold}
use Rattle.xsk_umem.specs.declared.batch.Item.{Item}
use Rattle.xsk_model.specs.Config.{Config}
use Rattle.xsk_model.specs.Entry.{Told}
use Rattle.xsk_model.specs.Own.{submitted_of, peeked_of}
use Rattle.xsk_model.specs.Ends.{draining_of, telling_of}
use Rattle.xsk_model.specs.Rings.{driver_of}
use Rattle.xsk_model.specs.Marks.{is_mark}
use Rattle.xsk_model.specs.Swaps.{last_set}
use Rattle.xsk_model.specs.declared.call.Ring.{Ring}
use Rattle.xsk_model.specs.declared.call.Ring.TheVariants.{Fill, Rx, Tx}
use Rattle.xsk_model.specs.declared.call.Mark.{Mark}
use Rattle.xsk_model.specs.declared.call.Mark.TheVariants.{NeedFill, NeedTx, Kick, RxDone, TxDone, Closing}
use Rattle.xsk_model.specs.declared.call.Call.{Call}
use Rattle.xsk_model.specs.declared.call.Call.TheVariants.{Submit, Swap, Look}
use Rattle.xsk_model.specs.declared.call.Reply.{Reply}
use Rattle.xsk_model.specs.declared.call.Reply.TheVariants.{Old}
use Rattle.xsk_turns.specs.Script.{Script, Asks}
use Rattle.xsk_turns.specs.AppTurns.{AppKept, lanes_of, pair_of, rx_of, tx_of, app_turn, app_start_by, IsAppRunBy, IsWholeAppRunBy}
use Rattle.xsk_turns.specs.Mangling.{change_at, made_of, mangled, round_of}
use Rattle.xsk_turns.specs.declared.manner.Manner.{Manner}
use Rattle.xsk_turns.specs.declared.manner.Change.{Change}
use Rattle.xsk_turns.specs.AppOwned.{IsApp}
use Rattle.xsk_turns.specs.Owned.{AllFit}
use Rattle.xsk_turns.specs.Wakes.{owes_on, owes_end}

-- one list is a front of another
abbrev pub IsFront : List Item → List Item → Type 0
IsFront front all = (rest : List Item) × (front ++ rest ≡ all)

-- on each lane of an application that changes nothing the items submitted on TX are the first of those peeked on RX, in order
-- and as they were
abbrev pub LanesInOrder : Type 0
LanesInOrder = (m : Manner) (c : Config) (app : ℕ) (l : List Told) (lane : ℕ) → m.mangle ≡ None → IsApp c app → IsAppRunBy m c app l → lane < lanes_of c
    → IsFront (submitted_of (Tx (tx_of c app lane)) l) (peeked_of (Rx (rx_of c app lane)) l)

-- a lane that an application doesn't close: it is none of the socket's that is to be closed, or the application didn't close that
abbrev pub StaysOpen : Config → ℕ → ℕ → List Told → Type 0
StaysOpen c app lane l = (s : ℕ) → c.closing ≡ Some s → (rx_of c app lane ≡ s) ⊎ (tx_of c app lane ≡ s) → last_set (Closing s) l ≢ Some 1

-- at the end, on each lane that stays open, they are all of those
abbrev pub LanesPassedOn : Type 0
LanesPassedOn = (m : Manner) (c : Config) (app : ℕ) (l : List Told) (lane : ℕ) → m.mangle ≡ None → IsApp c app → IsWholeAppRunBy m c app l → lane < lanes_of c → StaysOpen c app lane l
    → submitted_of (Tx (tx_of c app lane)) l ≡ peeked_of (Rx (rx_of c app lane)) l

-- Where items are changed, each item that is submitted on a lane is the one that was peeked in its place, as it was or with one
-- of the changes; where none are, it is as it was.
abbrev pub IsAltered : Geometry → Option ℕ → Item → Item → Type 0
IsAltered g None before after = after ≡ before
IsAltered g (Some every) before after = (after ≡ before) ⊎ ((change : Change) × (after ≡ made_of g change before))

abbrev pub AreAltered : Geometry → Option ℕ → List Item → List Item → Type 0
AreAltered g mangle [] [] = Unit {0}
AreAltered g mangle [] (after ∷ afters) = ⊥
AreAltered g mangle (before ∷ befores) [] = ⊥
AreAltered g mangle (before ∷ befores) (after ∷ afters) = IsAltered g mangle before after × AreAltered g mangle befores afters

-- so in a whole run of an application of any manner
abbrev pub LanesAltered : Type 0
LanesAltered = (m : Manner) (c : Config) (app : ℕ) (l : List Told) (lane : ℕ) → IsApp c app → IsWholeAppRunBy m c app l → lane < lanes_of c → StaysOpen c app lane l
    → AreAltered c.geometry m.mangle (peeked_of (Rx (rx_of c app lane)) l) (submitted_of (Tx (tx_of c app lane)) l)

-- how many items a call submits on TX, and a list of calls in all
abbrev pub sends_count : Call → ℕ
sends_count (Submit (Tx t) items) = length items
sends_count call = 0

abbrev pub items_sent : List Told → ℕ
items_sent [] = 0
items_sent (t ∷ l) = sends_count t.call + items_sent l

-- The items that are submitted are changed by their numbers, which count from 0 over all that was submitted on TX before.
abbrev pub IsNumbered : Geometry → ℕ → List Told → Call → Type 0
IsNumbered g every l (Submit (Tx t) items) = (before : List Item) × (items ≡ mangled g every (items_sent l) before)
IsNumbered g every l call = Unit {0}

abbrev pub ChangesByNumber : Type 0
ChangesByNumber = (m : Manner) (every : ℕ) (c : Config) (app : ℕ) (l : List Told) (kept : AppKept) (call : Call) (rest : Reply → Script AppKept) → m.mangle ≡ Some every → IsApp c app
    → Asks (app_turn c app) (app_start_by m c) l kept call rest → IsNumbered c.geometry every l call

-- They are the same again after each 5 times so many items.
abbrev pub ChangesRepeat : Type 0
ChangesRepeat = (every number : ℕ) → change_at every (number % round_of every) ≡ change_at every number

-- no Submit on TX stands behind the Swap that tells that nothing more is sent
abbrev pub NothingSentLate : Type 0
NothingSentLate = (m : Manner) (c : Config) (app t : ℕ) (l : List Told) → IsApp c app → IsAppRunBy m c app l → (telling_of (TxDone app) (Tx t) l).late ≡ false

-- at the end each lane's RX ring was found empty, after both drivers had told that they have no further packet
abbrev pub DrainsRx : Type 0
DrainsRx = (m : Manner) (c : Config) (app : ℕ) (l : List Told) (lane : ℕ) → IsApp c app → IsWholeAppRunBy m c app l → lane < lanes_of c
    → (draining_of (RxDone (pair_of c app 0) ∷ RxDone (pair_of c app 1) ∷ []) (Rx (rx_of c app lane)) l).empty ≡ true

-- ---- need-wakeup

-- it sets kicks, and clears none
abbrev pub SetsKick : Call → Type 0
SetsKick (Swap (Kick d) value) = value ≡ 1
SetsKick call = Unit {0}

abbrev pub SetsKicks : List Told → Type 0
SetsKicks [] = Unit {0}
SetsKicks (t ∷ l) = SetsKick t.call × SetsKicks l

abbrev pub OnlySetsKicks : Type 0
OnlySetsKicks = (m : Manner) (c : Config) (app : ℕ) (l : List Told) → IsApp c app → IsAppRunBy m c app l → SetsKicks l

-- The calls that are due where the need-wakeup flags are used: after a Submit on FILL or TX a look at that ring's flag (af_xdp.rst,
-- "XDP_USE_NEED_WAKEUP bind flag"); where it was answered 1, a swap of the kick of the ring's driver to 1; and after it told that
-- it sends nothing more, a swap of the kick of each of its drivers, and after it closed a socket one of its driver's.
abbrev pub kick_of : ℕ → List Call
kick_of pair = Swap (Kick pair) 1 ∷ []

abbrev pub flag_due : Config → Mark → Reply → List Call
flag_due c (NeedFill d) (Old number) = if number == 1 then kick_of d else []
flag_due c (NeedTx t) (Old number) = if number == 1 then kick_of (driver_of c (Tx t)) else []
flag_due c mark reply = []

abbrev pub closing_due : Config → Mark → ℕ → List Call
closing_due c (Closing s) value = if value == 1 then kick_of (driver_of c (Rx s)) else []
closing_due c mark value = []

abbrev pub due_after : Config → ℕ → Call → Reply → List Call
due_after c app (Submit (Fill d) items) reply = Look (NeedFill d) ∷ []
due_after c app (Submit (Tx t) items) reply = Look (NeedTx t) ∷ []
due_after c app (Swap m value) reply = if is_mark m (TxDone app) && value == 1 then kick_of (pair_of c app 0) ++ kick_of (pair_of c app 1) else closing_due c m value
due_after c app (Look m) reply = flag_due c m reply
due_after c app call reply = []

-- each call is the first that is due, where one is, and those after it stay due
abbrev pub due_step : Config → ℕ → List Call → Told → List Call
due_step c app due t = due_after c app t.call t.reply ++ drop 1 due

abbrev pub due_of : Config → ℕ → List Told → List Call
due_of c app l = fold (due_step c app) [] l

-- so it makes each call that is due at once
abbrev pub IsFirstDue : Call → List Call → Type 0
IsFirstDue call [] = Unit {0}
IsFirstDue call (first ∷ later) = call ≡ first

abbrev pub WakesAtOnce : Type 0
WakesAtOnce = (m : Manner) (c : Config) (app : ℕ) (l : List Told) (kept : AppKept) (call : Call) (rest : Reply → Script AppKept) → IsApp c app → c.wakeup ≡ true
    → Asks (app_turn c app) (app_start_by m c) l kept call rest → IsFirstDue call (due_of c app l)

-- a ring that a driver consumes, with its flag
abbrev pub IsFlagged : Config → ℕ → Ring → Mark → Type 0
IsFlagged c d (Fill e) (NeedFill f) = (e ≡ d) × (f ≡ d)
IsFlagged c d (Tx t) (NeedTx u) = (driver_of c (Tx t) ≡ d) × (u ≡ t)
IsFlagged c d r flag = ⊥

-- So what it owes it pays at once: where it owes a driver a kick for what it submitted on a ring, its next call is the look at
-- the ring's flag, or the kick;
abbrev pub PaysAtOnce : Type 0
PaysAtOnce = (m : Manner) (c : Config) (app : ℕ) (l : List Told) (kept : AppKept) (call : Call) (rest : Reply → Script AppKept) (d : ℕ) (r : Ring) (flag : Mark) → IsApp c app → c.wakeup ≡ true
    → AllFit c [] l → Asks (app_turn c app) (app_start_by m c) l kept call rest → IsFlagged c d r flag → owes_on d r flag l ≡ true → (call ≡ Look flag) ⊎ (call ≡ Swap (Kick d) 1)

-- and where it owes one for the end to the driver of a side, its next call is that kick, or that of the side before it.
abbrev pub PaysEndAtOnce : Type 0
PaysEndAtOnce = (m : Manner) (c : Config) (app : ℕ) (l : List Told) (kept : AppKept) (call : Call) (rest : Reply → Script AppKept) (side : ℕ) → IsApp c app → c.wakeup ≡ true → side < 2
    → Asks (app_turn c app) (app_start_by m c) l kept call rest → owes_end (pair_of c app side) (TxDone app) l ≡ true
    → (other : ℕ) × (other ≤ side) × (call ≡ Swap (Kick (pair_of c app other)) 1)
