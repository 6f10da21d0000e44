-- When nothing changes any more: calls whose replies are those of one state, and leave it as it is; and why a worker that makes
-- such calls alone stays as it is. All of this is this project's own.
use Rattle.std.specs.Prelude.{◌≡◌, ◌≢◌, ◌⊎◌, ℕ, ◌<◌, ◌≤◌, true, false, All, List, [], ◌∷◌, length, None, Some, if◌then◌else◌}
use Rattle.xsk_umem.specs.Frame.{Frame}
use Rattle.xsk_umem.specs.Limits.{most_items}
use Rattle.xsk_umem.specs.declared.batch.Item.{Item}
use Rattle.xsk_model.specs.Config.{Config, HasRing, size_of, pool_of, batch_of}
use Rattle.xsk_model.specs.Limits.{most_fragments}
use Rattle.xsk_model.specs.Object.{State, ring_at, mark_at, free, reply_at}
use Rattle.xsk_model.specs.OtherWords.{changes}
use Rattle.xsk_model.specs.Entry.{Told}
use Rattle.xsk_model.specs.Steering.{packet_limit}
use Rattle.xsk_model.specs.declared.call.Ring.{Ring}
use Rattle.xsk_model.specs.declared.call.Ring.TheVariants.{Fill, Comp, Rx, Tx}
use Rattle.xsk_model.specs.declared.call.Mark.TheVariants.{RxDone, Gone, TxDone, Cell}
use Rattle.xsk_turns.specs.Turns.{Seat, Judged, Kept, bounces, drops, disposal_untried, cell_of, redirect_to, pieces_of, application_of}
use Rattle.xsk_turns.specs.AppTurns.{AppKept, lanes_of, pair_of, rx_of, tx_of, home_of, group_of, pending_at, back_at}
use Rattle.xsk_turns.specs.Owned.{socket_at_class}

-- ---- where no run stalls

-- the most frames of a packet: 18, or without XDP_USE_SG one
abbrev pub most_pieces : Config → ℕ
most_pieces c = if c.sg then most_fragments else 1

-- each ring has 32 entries or more, and each pair's pool 18 frames or more
pub record HasAmpleRoom (c : Config) : Type 0 where
  pub rings : (r : Ring) → HasRing c r → most_items ≤ size_of c r
  pub pool : most_fragments ≤ pool_of c

-- ---- calls that change nothing

-- the reply is that of a state, and the call leaves the state as it is
pub record IsStill (c : Config) (x : State) (t : Told) : Type 0 where
  pub reply : t.reply ≡ reply_at c x t.call
  pub quiet : changes t.call t.reply ≡ false

abbrev pub AreStill : Config → State → List Told → Type 0
AreStill c x l = All (IsStill c x) l

-- a ring hasn't so many free places
abbrev pub LacksRoom : Config → State → Ring → ℕ → Type 0
LacksRoom c x r n = free (size_of c r) (ring_at c x r) < n

abbrev pub IsEmpty : Config → State → Ring → Type 0
IsEmpty c x r = (ring_at c x r).out ≡ []

-- ---- a driver

-- its next packet is tried and doesn't bounce, fits the limit and goes to a socket of its queue, the wire waits, and there is too
-- little room or there are too few frames
pub record IsHeldUp (seat : Seat) (x : State) (kept : Kept) : Type 0 where
  pub packet : Judged
  pub later : List Judged
  pub next : kept.coming ≡ packet ∷ later
  pub tried : disposal_untried seat packet ≡ None
  pub stays : bounces packet.verdict ≡ false
  pub fits : length packet.bytes ≤ packet_limit seat.config
  pub socket : ℕ
  pub target : redirect_to seat.config seat.port seat.queue (mark_at seat.config x (Cell seat.port (cell_of packet.verdict))) ≡ Some socket
  pub waits : drops seat.wire ≡ false
  pub why : LacksRoom seat.config x (Rx socket) (pieces_of seat packet.bytes)
      ⊎ ((length kept.spare < pieces_of seat packet.bytes) × IsEmpty seat.config x (Fill seat.pair))

-- COMPLETION has too little room for its first finished packet
pub record IsBlocked (seat : Seat) (x : State) (kept : Kept) : Type 0 where
  pub packet : List Item
  pub later : List (List Item)
  pub first : kept.finished ≡ packet ∷ later
  pub lacks : LacksRoom seat.config x (Comp seat.pair) (length packet)

abbrev pub HasSentAll : Seat → State → Kept → Type 0
HasSentAll seat x kept = (kept.finished ≡ []) × ((class : ℕ) → class < seat.classes → IsEmpty seat.config x (Tx (socket_at_class seat.config seat.pair class)))

-- why a driver that isn't parked stays as it is
pub record StaysBy (seat : Seat) (x : State) (kept : Kept) : Type 0 where
  pub receives : ((kept.coming ≡ []) × (kept.rx_done ≡ true)) ⊎ IsHeldUp seat x kept
  pub sends : HasSentAll seat x kept ⊎ IsBlocked seat x kept
  pub waits : kept.coming ≡ [] → kept.finished ≡ [] → mark_at seat.config x (TxDone (application_of seat)) ≢ 1

-- ---- an application

-- a lane is empty, or its TX ring has too little room for what is pending
abbrev pub LaneStays : Config → ℕ → State → AppKept → ℕ → Type 0
LaneStays c a x kept lane =
    ((pending_at kept lane ≡ []) × IsEmpty c x (Rx (rx_of c a lane)))
    ⊎ ((pending_at kept lane ≢ []) × LacksRoom c x (Tx (tx_of c a lane)) (length (pending_at kept lane)))

-- a side is empty, or the FILL ring of its first frame has too little room for the frames that go back with it
pub record IsFullFor (c : Config) (x : State) (frames : List Frame) : Type 0 where
  pub frame : Frame
  pub others : List Frame
  pub first : frames ≡ frame ∷ others
  pub lacks : LacksRoom c x (Fill (home_of (pool_of c) frame)) (length (group_of (pool_of c) (batch_of c) frame others))

abbrev pub SideStays : Config → ℕ → State → AppKept → ℕ → Type 0
SideStays c a x kept side = ((back_at kept side ≡ []) × IsEmpty c x (Comp (pair_of c a side))) ⊎ IsFullFor c x (back_at kept side)

-- why an application stays as it is
pub record AppStaysBy (c : Config) (a : ℕ) (x : State) (kept : AppKept) : Type 0 where
  pub lanes : kept.tx_done ≡ false → (lane : ℕ) → lane < lanes_of c → LaneStays c a x kept lane
  pub sides : (side : ℕ) → side < 2 → SideStays c a x kept side
  pub untold : kept.tx_done ≡ false → ((side : ℕ) → side < 2 → mark_at c x (RxDone (pair_of c a side)) ≡ 1)
      → ((lane : ℕ) → lane < lanes_of c → pending_at kept lane ≡ []) → ⊥
  pub unended : kept.tx_done ≡ true → ((side : ℕ) → side < 2 → mark_at c x (Gone (pair_of c a side)) ≡ 1)
      → ((side : ℕ) → side < 2 → back_at kept side ≡ []) → ⊥
