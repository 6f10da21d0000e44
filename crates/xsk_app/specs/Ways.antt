-- What an application's machine has of its configuration, and where it may wait.
use Rattle.std.specs.Prelude.{◌≡◌, ℕ, zero, suc, ◌+◌, ◌/◌, ◌<◌, ◌==◌, Bool, if◌then◌else◌, Option, Some, None, List, [], ◌∷◌, length, slice_index}
use Rattle.std.specs.List.{slice_index_or}
use Rattle.std.specs.Coded.{×_prop, Unit-prop, le_prop}
use Rattle.std.proofs.Props.{props}
use Rattle.xsk_umem.specs.Frame.{Frame}
use Rattle.xsk_umem.specs.declared.batch.Item.{Item}
use Rattle.xsk_model.specs.Config.{Config, pool_of, batch_of, classes_of}
use Rattle.xsk_turns.specs.AppTurns.{Shut, rx_of, tx_of, tx_pair, lanes_of, home_of, group_of, is_set}
use Rattle.xsk_app.specs.declared.machine.Way.{Way}
use Rattle.xsk_app.specs.declared.machine.Next.{Next}
use Rattle.xsk_app.specs.declared.machine.Next.TheVariants.{Lane, Side, Second, Lanes, Turn}
use Rattle.xsk_app.specs.declared.machine.Wait.{Wait}
use Rattle.xsk_app.specs.declared.machine.Wait.TheVariants.{LowerCell, DrainRx, ReleaseDrained, PeekRx, ReleaseRx, ReserveTx, SubmitTx, PeekComp, ReleaseComp, ReserveFill, SubmitFill, LookNeed, Kick, LookRxDone, LookGone}

-- the sockets of a lane, the pair of its TX ring and the side that receives
pub record IsWay (c : Config) (app lane : ℕ) (way : Way) : Type 0 where
  pub rx : way.rx ≡ rx_of c app lane
  pub tx : way.tx ≡ tx_of c app lane
  pub pair : way.pair ≡ tx_pair c app lane
  pub side : way.side ≡ lane / classes_of c
  pub below : way.side < 2

-- each lane has its sockets, the pair of its TX ring and the side that receives
pub record AreWays (c : Config) (app : ℕ) (ways : List Way) : Type 0 where
  pub count : length ways ≡ lanes_of c
  pub rx : (lane : ℕ) (d : Way) → lane < length ways → (slice_index_or ways lane d).rx ≡ rx_of c app lane
  pub tx : (lane : ℕ) (d : Way) → lane < length ways → (slice_index_or ways lane d).tx ≡ tx_of c app lane
  pub pair : (lane : ℕ) (d : Way) → lane < length ways → (slice_index_or ways lane d).pair ≡ tx_pair c app lane
  pub side : (lane : ℕ) (d : Way) → lane < length ways → (slice_index_or ways lane d).side ≡ lane / classes_of c
  pub below : (lane : ℕ) → lane < length ways → lane / classes_of c < 2

-- the home and the number of the frames that a side gives back next
abbrev pub IsGroup : ℕ → ℕ → List Frame → ℕ → ℕ → Type 0
IsGroup pool batch [] home count = ⊥
IsGroup pool batch (frame ∷ frames) home count = (home ≡ home_of pool frame) × (count ≡ length (group_of pool batch frame frames))

-- the socket that an application closes, where it closes one
abbrev pub socket_in : Option Shut → Option ℕ
socket_in None = None
socket_in (Some shut) = Some shut.socket

-- the first of so many more cells, from this one on, that holds a socket
abbrev pub first_cell : List ℕ → ℕ → ℕ → ℕ → Option ℕ
first_cell cells s zero index = None
first_cell cells s (suc more) index = if slice_index cells index == suc s then Some index else first_cell cells s more (index + 1)

-- where it goes on behind a wake there is such a lane or side
abbrev pub CanGoOn : List (List Item) → Next → Type 0
CanGoOn pending (Lane lane) = lane < length pending
CanGoOn pending (Side side) = side < 2
CanGoOn pending Second = Unit {0}
CanGoOn pending Lanes = Unit {0}
CanGoOn pending Turn = Unit {0}

-- Where it waits there is such a lane or side, or such a socket and such a cell. It peeks RX where no item of the lane is pending, and COMPLETION where the side
-- has nothing to give back; and it asks for places on FILL for the frames that the side gives back next.
abbrev pub IsReady : Config → List (List Item) → List (List Frame) → Wait → Type 0
IsReady c pending back (LowerCell socket index) = (socket < length c.sockets) × (index < 64)
IsReady c pending back (DrainRx lane) = lane < length pending
IsReady c pending back (ReleaseDrained lane) = lane < length pending
IsReady c pending back (PeekRx lane) = (lane < length pending) × (length (slice_index_or pending lane []) ≡ 0)
IsReady c pending back (ReleaseRx lane) = lane < length pending
IsReady c pending back (ReserveTx lane) = lane < length pending
IsReady c pending back (SubmitTx lane) = lane < length pending
IsReady c pending back (PeekComp side) = (side < 2) × (length (slice_index_or back side []) ≡ 0)
IsReady c pending back (ReleaseComp side) = side < 2
IsReady c pending back (ReserveFill side home count) = (side < 2) × IsGroup (pool_of c) (batch_of c) (slice_index_or back side []) home count
IsReady c pending back (SubmitFill side home) = side < 2
IsReady c pending back (LookNeed pair next) = CanGoOn pending next
IsReady c pending back (Kick next) = CanGoOn pending next
IsReady c pending back (LookRxDone side) = side < 2
IsReady c pending back (LookGone side) = side < 2
IsReady c pending back wait = Unit {0}

-- the first of so many more sides, from this one on, that isn't set
abbrev pub first_unset : List Bool → ℕ → ℕ → Option ℕ
first_unset flags zero side = None
first_unset flags (suc more) side = if is_set flags side then first_unset flags more (side + 1) else Some side

-- each of these facts has at most one proof
same_number : (m n : ℕ) → IsProp (m ≡ n)
same_number m n = hlevel props

IsGroup-prop : (pool batch : ℕ) (back : List Frame) (home count : ℕ) → IsProp (IsGroup pool batch back home count)
IsGroup-prop pool batch [] home count = hlevel props
IsGroup-prop pool batch (frame ∷ frames) home count =
    ×_prop (same_number home (home_of pool frame)) (same_number count (length (group_of pool batch frame frames)))

CanGoOn-prop : (pending : List (List Item)) (next : Next) → IsProp (CanGoOn pending next)
CanGoOn-prop pending (Lane lane) = le_prop
CanGoOn-prop pending (Side side) = le_prop
CanGoOn-prop pending Second = Unit-prop
CanGoOn-prop pending Lanes = Unit-prop
CanGoOn-prop pending Turn = Unit-prop

pub IsReady-prop : (c : Config) (pending : List (List Item)) (back : List (List Frame)) (wait : Wait) → IsProp (IsReady c pending back wait)
IsReady-prop c pending back (LowerCell socket index) = ×_prop le_prop le_prop
IsReady-prop c pending back (DrainRx lane) = le_prop
IsReady-prop c pending back (ReleaseDrained lane) = le_prop
IsReady-prop c pending back (PeekRx lane) = ×_prop le_prop (same_number (length (slice_index_or pending lane [])) 0)
IsReady-prop c pending back (ReleaseRx lane) = le_prop
IsReady-prop c pending back (ReserveTx lane) = le_prop
IsReady-prop c pending back (SubmitTx lane) = le_prop
IsReady-prop c pending back (PeekComp side) = ×_prop le_prop (same_number (length (slice_index_or back side [])) 0)
IsReady-prop c pending back (ReleaseComp side) = le_prop
IsReady-prop c pending back (ReserveFill side home count) =
    ×_prop le_prop (IsGroup-prop (pool_of c) (batch_of c) (slice_index_or back side []) home count)
IsReady-prop c pending back (SubmitFill side home) = le_prop
IsReady-prop c pending back (LookNeed pair next) = CanGoOn-prop pending next
IsReady-prop c pending back (Kick next) = CanGoOn-prop pending next
IsReady-prop c pending back (LookRxDone side) = le_prop
IsReady-prop c pending back (LookGone side) = le_prop
IsReady-prop c pending back wait = Unit-prop
