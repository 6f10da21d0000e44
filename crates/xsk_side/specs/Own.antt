-- What a party's own calls leave: the room and the held entries of its rings, its frames, and, of the kernel, from which ring it took
-- each. Lists of calls have the latest first.
use Rattle.std.specs.Prelude.{ℕ, ◌+◌, ◌-◌, Bool, true, false, ◌&&◌, not, ◌==◌, if◌then◌else◌, Option, Some, None, is_some, List, [], ◌∷◌, ◌++◌, length, drop, map}
use Rattle.xsk_umem.specs.declared.batch.XdpDesc.{XdpDesc}
use Rattle.xsk_model.specs.Descriptor.{is_inside}
use Rattle.xsk_model.specs.Rings.{is_ring}
use Rattle.xsk_model.specs.declared.call.Ring.{Ring}
use Rattle.xsk_model.specs.declared.call.Ring.TheVariants.{Fill, Comp, Rx, Tx}
use Rattle.xsk_side.specs.Setting.{Setting, pair_of}
use Rattle.xsk_side.specs.Entries.{frame, stands, strays_in, last, but_last}
use Rattle.xsk_side.specs.Object.{ring_of, granted}
use Rattle.xsk_side.specs.declared.call.Party.{Party}
use Rattle.xsk_side.specs.declared.call.Party.TheVariants.{Program, Kernel}
use Rattle.xsk_side.specs.declared.call.Call.{Call}
use Rattle.xsk_side.specs.declared.call.Call.TheVariants.{Reserve, Free, Submit, Peek, Release, Cancel}

-- ---- the places reserved and not yet filled

abbrev pub room_after : ℕ → Call → ℕ
room_after room (Reserve r n answer) = room + granted answer n
room_after room (Free r n places) = room
room_after room (Submit r entries) = room - length entries
room_after room (Peek r n entries) = room
room_after room (Release r n) = room
room_after room (Cancel r n) = room - n

abbrev pub room_of : Ring → List Call → ℕ
room_of r [] = 0
room_of r (call ∷ mine) = if is_ring r (ring_of call) then room_after (room_of r mine) call else room_of r mine

-- ---- the entries peeked and not yet released

-- an entry that is held, and whether its frame was not submitted since it was peeked
pub record Held : Type 0 where
  pub entry : XdpDesc
  pub untouched : Bool

abbrev pub fresh : XdpDesc → Held
fresh entry = record { entry = entry; untouched = true }

abbrev pub entry_of : Held → XdpDesc
entry_of h = h.entry

-- behind a Submit of these entries, on whatever ring
abbrev pub touch : Setting → List XdpDesc → Held → Held
touch s entries h = record h { untouched = h.untouched && not (is_inside s.geometry h.entry && stands s (frame s h.entry) entries) }

abbrev pub held_after : Setting → Ring → List Held → Call → List Held
held_after s r held (Reserve q n answer) = held
held_after s r held (Free q n places) = held
held_after s r held (Submit q entries) = map (touch s entries) held
held_after s r held (Peek q n entries) = if is_ring r q then held ++ map fresh entries else held
held_after s r held (Release q n) = if is_ring r q then drop n held else held
held_after s r held (Cancel q n) = if is_ring r q then but_last n held else held

abbrev pub held_of : Setting → Ring → List Call → List Held
held_of s r [] = []
held_of s r (call ∷ mine) = held_after s r (held_of s r mine) call

-- ---- frames

-- the entries that a Cancel puts back
abbrev pub put_back : Setting → List Call → Ring → ℕ → List XdpDesc
put_back s mine r n = map entry_of (last n (held_of s r mine))

-- whether the program has a frame: at the start it has all
abbrev pub has_after : Setting → ℕ → List Call → Bool → Call → Bool
has_after s f mine has (Reserve r n answer) = has
has_after s f mine has (Free r n places) = has
has_after s f mine has (Submit r entries) = if stands s f entries then false else has
has_after s f mine has (Peek r n entries) = if stands s f entries then true else has
has_after s f mine has (Release r n) = has
has_after s f mine has (Cancel r n) = if stands s f (put_back s mine r n) then false else has

abbrev pub has_frame : Setting → ℕ → List Call → Bool
has_frame s f [] = true
has_frame s f (call ∷ mine) = has_after s f mine (has_frame s f mine) call

-- the ring from which the kernel took a frame that it has
abbrev pub source_after : Setting → ℕ → Option Ring → Call → Option Ring
source_after s f source (Reserve r n answer) = source
source_after s f source (Free r n places) = source
source_after s f source (Submit r entries) = if stands s f entries then None else source
source_after s f source (Peek r n entries) = if stands s f entries then Some r else source
source_after s f source (Release r n) = source
source_after s f source (Cancel r n) = source

abbrev pub source_of : Setting → List Call → ℕ → Option Ring
source_of s [] f = None
source_of s (call ∷ mine) f = source_after s f (source_of s mine f) call

-- whether a party has a frame
abbrev pub has : Setting → Party → List Call → ℕ → Bool
has s Program mine f = has_frame s f mine
has s Kernel mine f = is_some (source_of s mine f)

-- ---- addresses that name no frame

-- whether a ring is TX of a pair
abbrev pub is_tx_of : Setting → ℕ → Ring → Bool
is_tx_of s d (Fill e) = false
is_tx_of s d (Comp e) = false
is_tx_of s d (Rx k) = false
is_tx_of s d (Tx k) = pair_of s (Tx k) == d

-- how many of them the kernel took from TX of a pair, and didn't put on its COMPLETION
abbrev pub taken_after : Setting → ℕ → ℕ → Call → ℕ
taken_after s d taken (Reserve r n answer) = taken
taken_after s d taken (Free r n places) = taken
taken_after s d taken (Submit r entries) = if is_ring (Comp d) r then taken - strays_in s entries else taken
taken_after s d taken (Peek r n entries) = if is_tx_of s d r then taken + strays_in s entries else taken
taken_after s d taken (Release r n) = taken
taken_after s d taken (Cancel r n) = taken

abbrev pub strays_taken : Setting → ℕ → List Call → ℕ
strays_taken s d [] = 0
strays_taken s d (call ∷ mine) = taken_after s d (strays_taken s d mine) call
