-- The rings, one call at a time (af_xdp.rst, "Rings"; the ring functions of libxdp's xsk.h). Two parties call: the program produces
-- FILL and TX and consumes RX and COMPLETION, and the kernel the other way round.
-- A list of calls has the latest first, so that what stands behind a call is all that came before it.
use Rattle.std.specs.Prelude.{◌≡◌, ℕ, ◌+◌, ◌-◌, ◌<◌, ◌≤◌, ◌⊎◌, Bool, true, false, if◌then◌else◌, List, [], ◌∷◌, ◌++◌, length, take, drop}
use Rattle.xsk_umem.specs.declared.batch.XdpDesc.{XdpDesc}
use Rattle.xsk_model.specs.declared.call.Ring.{Ring}
use Rattle.xsk_model.specs.declared.call.Ring.TheVariants.{Fill, Comp, Rx, Tx}
use Rattle.xsk_model.specs.Rings.{is_ring}
use Rattle.xsk_side.specs.Entries.{last, but_last}
use Rattle.xsk_side.specs.declared.call.Party.{Party}
use Rattle.xsk_side.specs.declared.call.Party.TheVariants.{Program, Kernel}
use Rattle.xsk_side.specs.declared.call.Answer.{Answer}
use Rattle.xsk_side.specs.declared.call.Answer.TheVariants.{Granted, Full, Refused}
use Rattle.xsk_side.specs.declared.call.Call.{Call}
use Rattle.xsk_side.specs.declared.call.Call.TheVariants.{Reserve, Free, Submit, Peek, Release, Cancel}

-- a call with whose it is
pub record Entry : Type 0 where
  pub who : Party
  pub call : Call

-- whether the program produces a ring
abbrev pub is_made : Ring → Bool
is_made (Fill d) = true
is_made (Comp d) = false
is_made (Rx k) = false
is_made (Tx k) = true

abbrev pub producer : Ring → Party
producer r = if is_made r then Program else Kernel

abbrev pub consumer : Ring → Party
consumer r = if is_made r then Kernel else Program

abbrev pub ring_of : Call → Ring
ring_of (Reserve r n answer) = r
ring_of (Free r n places) = r
ring_of (Submit r entries) = r
ring_of (Peek r n entries) = r
ring_of (Release r n) = r
ring_of (Cancel r n) = r

-- ---- the state of a ring

-- the entries that were submitted and not yet peeked, those that were peeked and not yet released, and how many places are reserved
-- and not yet filled
pub record RingState : Type 0 where
  pub out : List XdpDesc
  pub held : List XdpDesc
  pub room : ℕ

abbrev pub granted : Answer → ℕ → ℕ
granted Granted n = n
granted (Full places) n = 0
granted Refused n = 0

-- a Cancel is the program's, which gives up places of FILL and TX, and puts back entries of RX and COMPLETION
abbrev pub ring_after : RingState → Call → RingState
ring_after ring (Reserve r n answer) = record ring { room = ring.room + granted answer n }
ring_after ring (Free r n places) = ring
ring_after ring (Submit r entries) = record ring { out = ring.out ++ entries; room = ring.room - length entries }
ring_after ring (Peek r n entries) = record ring { out = drop (length entries) ring.out; held = ring.held ++ entries }
ring_after ring (Release r n) = record ring { held = drop n ring.held }
ring_after ring (Cancel r n) =
    if is_made r
    then record ring { room = ring.room - n }
    else record ring { out = last n ring.held ++ ring.out; held = but_last n ring.held }

-- a ring after calls of both parties
abbrev pub ring_at : Ring → List Entry → RingState
ring_at r [] = record { out = []; held = []; room = 0 }
ring_at r (e ∷ past) = if is_ring r (ring_of e.call) then ring_after (ring_at r past) e.call else ring_at r past

-- ---- replies

-- the places of a ring that are free
abbrev pub free : ℕ → RingState → ℕ
free size ring = size - (length ring.out + length ring.held + ring.room)

-- The answers that may be given where so many places are free. Nothing tells how many more than n are free.
abbrev pub Answers : ℕ → ℕ → Answer → Type 0
Answers places n Granted = n ≤ places
Answers places n (Full told) = (told ≡ places) × (told < n)
Answers places n Refused = places < n

-- The replies that a ring may give. A Peek shows the first entries: an old copy of the producer's count may show fewer than there
-- are, but none only where there is none.
abbrev pub Replies : ℕ → RingState → Call → Type 0
Replies size ring (Reserve r n answer) = Answers (free size ring) n answer
Replies size ring (Free r n places) = (places ≤ free size ring) × (places < n → places ≡ free size ring)
Replies size ring (Submit r entries) = Unit {0}
Replies size ring (Peek r n entries) =
    (length entries ≤ n) × (entries ≡ take (length entries) ring.out) × (entries ≡ [] → (n ≡ 0) ⊎ (ring.out ≡ []))
Replies size ring (Release r n) = Unit {0}
Replies size ring (Cancel r n) = Unit {0}
