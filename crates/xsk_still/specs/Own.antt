-- What holds at each call of a worker that makes calls that change nothing, by its own calls and replies.
use Rattle.std.specs.Prelude.{◌≡◌, ◌⊎◌, ℕ, ◌<◌, ◌≤◌, Bool, true, false, All, None, Some, List, [], ◌∷◌, ◌++◌, length, is_some}
use Rattle.xsk_umem.specs.Frame.{Frame}
use Rattle.xsk_umem.specs.Limits.{most_items}
use Rattle.xsk_umem.specs.declared.batch.Item.{Item}
use Rattle.xsk_model.specs.Config.{Config, classes_of, pool_of}
use Rattle.xsk_model.specs.Packets.{packets}
use Rattle.xsk_model.specs.Limits.{most_fragments}
use Rattle.xsk_model.specs.Marks.{is_mark}
use Rattle.xsk_model.specs.Object.{State, mark_at}
use Rattle.xsk_model.specs.Entry.{Told}
use Rattle.xsk_model.specs.Own.{room_of, held_of, submitted_of, peeked_of}
use Rattle.xsk_model.specs.Ends.{draining_of, telling_of}
use Rattle.xsk_model.specs.declared.call.Ring.{Ring}
use Rattle.xsk_model.specs.declared.call.Ring.TheVariants.{Fill, Comp, Rx, Tx}
use Rattle.xsk_model.specs.declared.call.Mark.{Mark}
use Rattle.xsk_model.specs.declared.call.Mark.TheVariants.{NeedFill, NeedTx, Kick, RxDone, Gone, TxDone}
use Rattle.xsk_model.specs.declared.call.Call.{Call}
use Rattle.xsk_model.specs.declared.call.Call.TheVariants.{Submit, Release, Swap, Look}
use Rattle.xsk_model.specs.declared.call.Reply.{Reply}
use Rattle.xsk_turns.specs.Script.{Script, Asks}
use Rattle.xsk_turns.specs.Turns.{Seat, Judged, Kept, seat_of, start, turn, bad_ones, IsDriverRun, IsWholeDriverRun}
use Rattle.xsk_turns.specs.AppTurns.{AppKept, app_turn, app_start, lanes_of, pair_of, rx_of, tx_of, home_of, pending_at, IsAppRun, IsWholeAppRun}
use Rattle.xsk_turns.specs.Law.{IsLaidOut, IsSized}
use Rattle.xsk_turns.specs.Owned.{IsSeat, AllFit, socket_at_class}
use Rattle.xsk_turns.specs.AppOwned.{IsApp}
use Rattle.xsk_turns.specs.Wakes.{IsParked}
use Rattle.xsk_turns.specs.Watching.{watching_of}
use Rattle.xsk_turns.specs.declared.wire.Wire.{Wire}
use Rattle.xsk_still.specs.Still.{AreStill, StaysBy, AppStaysBy}

-- ---- in a stretch of 64 calls that change nothing

-- what holds at each call of the stretch
abbrev pub AtEach : {K : Type 0} → (K → Script K) → K → List Told → List Told → (K → Type 0) → Type 0
AtEach turn begins mine still P = (front : List Told) (t : Told) (later : List Told) (kept : _) (rest : Reply → Script _) → still ≡ front ++ t ∷ later
    → Asks turn begins (mine ++ front) kept t.call rest → P kept

-- as many packets have their disposal, and where the driver's mark says that no packet comes, it keeps that it told so
abbrev pub HasSettled : Wire → Config → ℕ → List Judged → ℕ → List Told → List Told → Type 0
HasSettled wire c d input count mine still =
    AtEach (turn (seat_of wire c d)) (start (classes_of c) input) mine still (λ (kept : Kept). length kept.disposals ≡ count)

abbrev pub KeepsRxMark : Wire → Config → ℕ → List Judged → State → List Told → List Told → Type 0
KeepsRxMark wire c d input x mine still =
    AtEach (turn (seat_of wire c d)) (start (classes_of c) input) mine still (λ (kept : Kept). mark_at c x (RxDone d) ≡ 1 → kept.rx_done ≡ true)

abbrev pub KeepsTxMark : Config → ℕ → State → List Told → List Told → Type 0
KeepsTxMark c a x mine still = AtEach (app_turn c a) (app_start c) mine still (λ (kept : AppKept). mark_at c x (TxDone a) ≡ 1 → kept.tx_done ≡ true)

-- a call that neither submits what was reserved, nor releases what was peeked
abbrev pub IsFree : Call → Type 0
IsFree (Submit r items) = ⊥
IsFree (Release r n) = ⊥
IsFree call = Unit {0}

-- nor looks at a need-wakeup flag, nor swaps a kick
abbrev pub IsPlain : Call → Type 0
IsPlain (Submit r items) = ⊥
IsPlain (Release r n) = ⊥
IsPlain (Look (NeedFill d)) = ⊥
IsPlain (Look (NeedTx s)) = ⊥
IsPlain (Swap (Kick d) value) = ⊥
IsPlain call = Unit {0}

-- so where no socket is closed a driver is parked, or stays as it is for want of room, of frames, or of the application's mark
abbrev pub DriverStays : Type 0
DriverStays = (wire : Wire) (c : Config) (d : ℕ) (input : List Judged) (x : State) (count : ℕ) (mine still : List Told) (kept : Kept) (call : Call) (rest : Reply → Script Kept)
    → IsSeat c d → c.closing ≡ None → AllFit c [] (mine ++ still) → AreStill c x still → 64 ≤ length still → HasSettled wire c d input count mine still → KeepsRxMark wire c d input x mine still
    → Asks (turn (seat_of wire c d)) (start (classes_of c) input) (mine ++ still) kept call rest
    → IsFree call × ((IsParked d (mine ++ still) × (is_some kept.parked ≡ true)) ⊎ StaysBy (seat_of wire c d) x kept)

abbrev pub AppStays : Type 0
AppStays = (c : Config) (a : ℕ) (x : State) (mine still : List Told) (kept : AppKept) (call : Call) (rest : Reply → Script AppKept)
    → IsApp c a → c.closing ≡ None → AllFit c [] (mine ++ still) → AreStill c x still → 64 ≤ length still → KeepsTxMark c a x mine still
    → Asks (app_turn c a) (app_start c) (mine ++ still) kept call rest
    → IsPlain call × AppStaysBy c a x kept

-- ---- what is due is done at once

abbrev pub HasNothingDue : List Told → Type 0
HasNothingDue l = (r : Ring) → (room_of r l ≡ 0) × (held_of r l ≡ 0)

abbrev pub DriverIsFree : Type 0
DriverIsFree = (wire : Wire) (c : Config) (d : ℕ) (input : List Judged) (l : List Told) (kept : Kept) (call : Call) (rest : Reply → Script Kept) → IsSeat c d → AllFit c [] l
    → Asks (turn (seat_of wire c d)) (start (classes_of c) input) l kept call rest → IsFree call → HasNothingDue l

abbrev pub DriverEndsFree : Type 0
DriverEndsFree = (wire : Wire) (c : Config) (d : ℕ) (input : List Judged) (l : List Told) → IsSeat c d → AllFit c [] l → IsWholeDriverRun wire c d input l → HasNothingDue l

abbrev pub AppIsFree : Type 0
AppIsFree = (c : Config) (a : ℕ) (l : List Told) (kept : AppKept) (call : Call) (rest : Reply → Script AppKept) → IsApp c a → AllFit c [] l
    → Asks (app_turn c a) (app_start c) l kept call rest → IsFree call → HasNothingDue l

-- ---- a driver that is parked

-- the flags are used and set, it has sent all, and it has no further packet, or its next one lacks frames
pub record Rests (seat : Seat) (frames : Bool) (kept : Kept) (l : List Told) : Type 0 where
  pub flagged : seat.config.wakeup ≡ true
  pub sent : kept.finished ≡ []
  pub none : frames ≡ false → (kept.coming ≡ []) × (kept.rx_done ≡ true)
  pub lacks : frames ≡ true → (packet : Judged) × (later : List Judged) × (kept.coming ≡ packet ∷ later) × (length kept.spare < most_fragments)
  pub fill : (watching_of (NeedFill seat.pair) (Fill seat.pair) (Kick seat.pair) l).set ≡ frames
  pub tx : (class : ℕ) → class < seat.classes
      → (watching_of (NeedTx (socket_at_class seat.config seat.pair class)) (Tx (socket_at_class seat.config seat.pair class)) (Kick seat.pair) l).set ≡ true

abbrev pub ParkedRests : Type 0
ParkedRests = (wire : Wire) (c : Config) (d : ℕ) (input : List Judged) (l : List Told) (frames : Bool) (kept : Kept) (call : Call) (rest : Reply → Script Kept) → IsSeat c d → AllFit c [] l
    → Asks (turn (seat_of wire c d)) (start (classes_of c) input) l kept call rest → kept.parked ≡ Some frames → Rests (seat_of wire c d) frames kept l

-- ---- what is told

abbrev pub KeepsRxTold : Type 0
KeepsRxTold = (wire : Wire) (c : Config) (d s : ℕ) (input : List Judged) (l : List Told) (kept : Kept) (call : Call) (rest : Reply → Script Kept)
    → Asks (turn (seat_of wire c d)) (start (classes_of c) input) l kept call rest
    → ((telling_of (RxDone d) (Rx s) l).told ≡ kept.rx_done) × (kept.rx_done ≡ true → kept.coming ≡ [])

abbrev pub TellsGoneLast : Type 0
TellsGoneLast = (wire : Wire) (c : Config) (d s : ℕ) (input : List Judged) (l : List Told) → IsDriverRun wire c d input l
    → ((telling_of (Gone d) (Comp s) l).late ≡ false)
    × ((IsWholeDriverRun wire c d input l × ((telling_of (Gone d) (Comp s) l).told ≡ true))
    ⊎ ((IsWholeDriverRun wire c d input l → ⊥) × ((telling_of (Gone d) (Comp s) l).told ≡ false)))

abbrev pub KeepsTxTold : Type 0
KeepsTxTold = (c : Config) (a t : ℕ) (l : List Told) (kept : AppKept) (call : Call) (rest : Reply → Script AppKept) → IsApp c a → c.closing ≡ None
    → Asks (app_turn c a) (app_start c) l kept call rest
    → ((telling_of (TxDone a) (Tx t) l).told ≡ kept.tx_done)
    × (kept.tx_done ≡ true → (lane : ℕ) → lane < lanes_of c → (draining_of (RxDone (pair_of c a 0) ∷ RxDone (pair_of c a 1) ∷ []) (Rx (rx_of c a lane)) l).empty ≡ true)

-- at its end it found both drivers gone
abbrev pub SeesGone : Type 0
SeesGone = (c : Config) (a side : ℕ) (l : List Told) → IsApp c a → IsWholeAppRun c a l → side < 2
    → (draining_of (Gone (pair_of c a side) ∷ []) (Comp (pair_of c a side)) l).unseen ≡ []

-- ---- where the frames are

-- what was submitted on an RX ring so far are layouts
abbrev pub LaysOut : Type 0
LaysOut = (wire : Wire) (c : Config) (d s : ℕ) (input : List Judged) (l : List Told) (kept : Kept) (call : Call) (rest : Reply → Script Kept) → IsSeat c d → AllFit c [] l
    → Asks (turn (seat_of wire c d)) (start (classes_of c) input) l kept call rest
    → (packets : List (List ℕ)) × IsLaidOut c.geometry c.sg packets (submitted_of (Rx s) l) × All (IsSized c) packets

abbrev pub HasPending : Type 0
HasPending = (c : Config) (a : ℕ) (l : List Told) (lane : ℕ) (kept : AppKept) (call : Call) (rest : Reply → Script AppKept) → IsApp c a → c.closing ≡ None → Asks (app_turn c a) (app_start c) l kept call rest → IsFree call
    → lane < lanes_of c → submitted_of (Tx (tx_of c a lane)) l ++ pending_at kept lane ≡ peeked_of (Rx (rx_of c a lane)) l

abbrev pub PendingFew : Type 0
PendingFew = (c : Config) (a : ℕ) (l : List Told) (lane : ℕ) (kept : AppKept) (call : Call) (rest : Reply → Script AppKept) → IsApp c a → AllFit c [] l
    → Asks (app_turn c a) (app_start c) l kept call rest → length (pending_at kept lane) ≤ most_items

-- where no packet was bad no frame is lost
abbrev pub LosesNone : Type 0
LosesNone = (wire : Wire) (c : Config) (d : ℕ) (input : List Judged) (l : List Told) (kept : Kept) (call : Call) (rest : Reply → Script Kept) → IsSeat c d → AllFit c [] l
    → Asks (turn (seat_of wire c d)) (start (classes_of c) input) l kept call rest
    → ((class : ℕ) → class < classes_of c → bad_ones (packets c.geometry c.sg (peeked_of (Tx (socket_at_class c d class)) l)) ≡ [])
    → kept.lost ≡ []

-- an item with a frame of a pair's pool
abbrev pub IsHomeItem : Config → ℕ → Item → Type 0
IsHomeItem c h item = (frame : Frame) × (item.frame ≡ Some frame) × (home_of (pool_of c) frame ≡ h)

abbrev pub FillsHomes : Type 0
FillsHomes = (c : Config) (a h : ℕ) (l : List Told) → IsApp c a → IsAppRun c a l → All (IsHomeItem c h) (submitted_of (Fill h) l)

-- a mark is set to 1 alone
abbrev pub SetsOne : Mark → Call → Type 0
SetsOne m (Swap n value) = is_mark m n ≡ true → value ≡ 1
SetsOne m call = Unit {0}

abbrev pub SetsOnes : Mark → List Told → Type 0
SetsOnes m l = All (λ (t : Told). SetsOne m t.call) l

-- so a driver does with the marks that tell of its end, and an application with its own
abbrev pub EndsSetOnce : Type 0
EndsSetOnce = (wire : Wire) (c : Config) (d : ℕ) (input : List Judged) (l : List Told) → IsDriverRun wire c d input l → SetsOnes (RxDone d) l × SetsOnes (Gone d) l

abbrev pub AppSetsOnce : Type 0
AppSetsOnce = (c : Config) (a : ℕ) (l : List Told) → IsApp c a → IsAppRun c a l → SetsOnes (TxDone a) l
