-- What a caller's own calls and replies leave: the frames that it has, the room and the held items of its rings, what it
-- gave and took, and what it has done with the packets of a TX ring. Each is a fold from the first call on.
use Rattle.std.specs.Prelude.{ℕ, ◌+◌, ◌-◌, ◌==◌, Bool, true, false, ◌&&◌, nat_lt, if◌then◌else◌, List, [], ◌∷◌, ◌++◌, length, drop}
use Rattle.std.specs.List.{fold}
use Rattle.xsk_umem.specs.declared.batch.Item.{Item}
use Rattle.xsk_model.specs.Config.{Config}
use Rattle.xsk_model.specs.Packets.{packets, whole_packets}
use Rattle.xsk_model.specs.Numbers.{times, numbers}
use Rattle.xsk_model.specs.Rings.{is_ring}
use Rattle.xsk_model.specs.Object.{submitted, taken, had_after}
use Rattle.xsk_model.specs.Entry.{Told}
use Rattle.xsk_model.specs.declared.call.Ring.{Ring}
use Rattle.xsk_model.specs.declared.call.Ring.TheVariants.{Fill, Comp, Rx, Tx}
use Rattle.xsk_model.specs.declared.call.Call.{Call}
use Rattle.xsk_model.specs.declared.call.Call.TheVariants.{Reserve, Submit, Peek, Release, Swap, Look}
use Rattle.xsk_model.specs.declared.call.Reply.{Reply}
use Rattle.xsk_model.specs.declared.call.Reply.TheVariants.{Granted}

-- ---- frames

abbrev pub had_step : List ℕ → Told → List ℕ
had_step had t = had_after had t.call t.reply

-- the numbers of the frames that a caller has; at first it has none
abbrev pub had_of : List Told → List ℕ
had_of mine = fold had_step [] mine

-- whether a call is a Peek on FILL
abbrev pub is_fill_peek : Call → Bool
is_fill_peek (Reserve r n) = false
is_fill_peek (Submit r items) = false
is_fill_peek (Peek (Fill d) n) = true
is_fill_peek (Peek (Comp d) n) = false
is_fill_peek (Peek (Rx s) n) = false
is_fill_peek (Peek (Tx s) n) = false
is_fill_peek (Release r n) = false
is_fill_peek (Swap m value) = false
is_fill_peek (Look m) = false

abbrev pub fill_step : ℕ → Bool → Told → Bool
fill_step n before t = if nat_lt 0 (times n (numbers (taken t.reply))) then is_fill_peek t.call else before

-- whether the caller last got the frame by a Peek on FILL
abbrev pub is_from_fill : ℕ → List Told → Bool
is_from_fill n mine = fold (fill_step n) false mine

-- ---- one ring

-- whether a call is one on this ring
abbrev pub is_on : Ring → Call → Bool
is_on r (Reserve s n) = is_ring r s
is_on r (Submit s items) = is_ring r s
is_on r (Peek s n) = is_ring r s
is_on r (Release s n) = is_ring r s
is_on r (Swap m value) = false
is_on r (Look m) = false

-- what the caller's calls on one ring leave of a value, where each changes it
abbrev pub part_of : {A : Type 0} → (A → Told → A) → Ring → A → List Told → A
part_of change r a [] = a
part_of change r a (t ∷ mine) = part_of change r (if is_on r t.call then change a t else a) mine

-- the places that a call got, and those that it gave back
abbrev pub granted : Call → Reply → ℕ
granted (Reserve r n) Granted = n
granted call reply = 0

abbrev pub released : Call → ℕ
released (Reserve r n) = 0
released (Submit r items) = 0
released (Peek r n) = 0
released (Release r n) = n
released (Swap m value) = 0
released (Look m) = 0

abbrev pub room_step : ℕ → Told → ℕ
room_step room t = room + granted t.call t.reply - length (submitted t.call)

abbrev pub held_step : ℕ → Told → ℕ
held_step held t = held + length (taken t.reply) - released t.call

abbrev pub given_step : ℕ → Told → ℕ
given_step given t = given + length (submitted t.call)

abbrev pub released_step : ℕ → Told → ℕ
released_step n t = n + released t.call

abbrev pub submitted_step : List Item → Told → List Item
submitted_step items t = items ++ submitted t.call

abbrev pub peeked_step : List Item → Told → List Item
peeked_step items t = items ++ taken t.reply

-- the places reserved and not yet filled, and the items peeked and not yet released
abbrev pub room_of : Ring → List Told → ℕ
room_of r mine = part_of room_step r 0 mine

abbrev pub held_of : Ring → List Told → ℕ
held_of r mine = part_of held_step r 0 mine

-- how many items were submitted, and how many released
abbrev pub given_of : Ring → List Told → ℕ
given_of r mine = part_of given_step r 0 mine

abbrev pub released_of : Ring → List Told → ℕ
released_of r mine = part_of released_step r 0 mine

-- the items submitted, and the items peeked
abbrev pub submitted_of : Ring → List Told → List Item
submitted_of r mine = part_of submitted_step r [] mine

abbrev pub peeked_of : Ring → List Told → List Item
peeked_of r mine = part_of peeked_step r [] mine

-- ---- the packets of a TX ring

-- what a driver has done with a TX ring: the items that it peeked, and how many of their Whole packets it completed
pub record TxWork : Type 0 where
  pub peeked : List Item
  pub completed : ℕ

-- the Whole packets that are not yet completed
abbrev pub waiting : Config → TxWork → List (List Item)
waiting c sending = drop sending.completed (whole_packets (packets c.geometry c.sg sending.peeked))

abbrev pub is_same : List ℕ → List ℕ → Bool
is_same [] [] = true
is_same [] (y ∷ ys) = false
is_same (x ∷ xs) [] = false
is_same (x ∷ xs) (y ∷ ys) = x == y && is_same xs ys

-- The packet that a Submit of these items on COMPLETION completes: the next one that waits, where they have its frames.
-- No frame stands in two packets that wait, so no other TX ring has such a packet.
abbrev pub completed_by : List Item → List (List Item) → List (List Item)
completed_by items [] = []
completed_by items (packet ∷ later) = if is_same (numbers items) (numbers packet) then packet ∷ [] else []

abbrev pub tx_work_after : Config → ℕ → TxWork → Call → Reply → TxWork
tx_work_after c s sending (Reserve r n) reply = sending
tx_work_after c s sending (Submit (Fill d) items) reply = sending
tx_work_after c s sending (Submit (Comp d) items) reply = record sending { completed = sending.completed + length (completed_by items (waiting c sending)) }
tx_work_after c s sending (Submit (Rx t) items) reply = sending
tx_work_after c s sending (Submit (Tx t) items) reply = sending
tx_work_after c s sending (Peek r n) reply = if is_ring (Tx s) r then record sending { peeked = sending.peeked ++ taken reply } else sending
tx_work_after c s sending (Release r n) reply = sending
tx_work_after c s sending (Swap m value) reply = sending
tx_work_after c s sending (Look m) reply = sending

abbrev pub tx_work_step : Config → ℕ → TxWork → Told → TxWork
tx_work_step c s sending t = tx_work_after c s sending t.call t.reply

-- what a driver has done with the TX ring of a socket
abbrev pub tx_work_of : Config → ℕ → List Told → TxWork
tx_work_of c s mine = fold (tx_work_step c s) (record { peeked = []; completed = 0 }) mine
