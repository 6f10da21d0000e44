-- Which call a party may make, by the setting and by its own earlier calls and their replies alone (af_xdp.rst, "Rings" and "UMEM").
-- What a kernel may put into RX and COMPLETION is this project's reading of Linux: later kernels redirect to any socket of the UMEM,
-- drop packets, and complete in any order, so no order is asked for.
use Rattle.std.specs.Prelude.{◌≡◌, ℕ, ◌≤◌, IsTrue, if◌then◌else◌, Option, Some, List, length, All}
use Rattle.xsk_umem.specs.declared.batch.XdpDesc.{XdpDesc}
use Rattle.xsk_model.specs.Descriptor.{is_inside}
use Rattle.xsk_model.specs.declared.call.Ring.{Ring}
use Rattle.xsk_model.specs.declared.call.Ring.TheVariants.{Fill, Comp, Rx, Tx}
use Rattle.xsk_side.specs.Setting.{Setting, HasRing, pair_of}
use Rattle.xsk_side.specs.Entries.{frame, times, strays_in, is_received, last}
use Rattle.xsk_side.specs.Object.{is_made, producer, consumer, ring_of}
use Rattle.xsk_side.specs.Own.{Held, room_of, held_of, source_of, has, strays_taken}
use Rattle.xsk_side.specs.declared.call.Party.{Party}
use Rattle.xsk_side.specs.declared.call.Party.TheVariants.{Program}
use Rattle.xsk_side.specs.declared.call.Call.{Call}
use Rattle.xsk_side.specs.declared.call.Call.TheVariants.{Reserve, Free, Submit, Peek, Release, Cancel}

-- the ring is the caller's at that end; only the program asks with Free and cancels
abbrev pub HasRole : Party → Call → Type 0
HasRole who (Reserve r n answer) = who ≡ producer r
HasRole who (Free r n places) = (who ≡ Program) × IsTrue (is_made r)
HasRole who (Submit r entries) = who ≡ producer r
HasRole who (Peek r n entries) = who ≡ consumer r
HasRole who (Release r n) = who ≡ consumer r
HasRole who (Cancel r n) = who ≡ Program

-- A Submit fills places that were reserved, a Release gives back entries that were peeked, and a Cancel gives up the one or the other.
-- There is no other bound on a number.
abbrev pub IsCounted : Setting → List Call → Call → Type 0
IsCounted s mine (Reserve r n answer) = Unit {0}
IsCounted s mine (Free r n places) = Unit {0}
IsCounted s mine (Submit r entries) = length entries ≤ room_of r mine
IsCounted s mine (Peek r n entries) = Unit {0}
IsCounted s mine (Release r n) = n ≤ length (held_of s r mine)
IsCounted s mine (Cancel r n) = n ≤ (if is_made r then room_of r mine else length (held_of s r mine))

-- the caller has each frame that it submits, and submits it once
abbrev pub HasFrames : Setting → Party → List Call → Call → Type 0
HasFrames s who mine (Reserve r n answer) = Unit {0}
HasFrames s who mine (Free r n places) = Unit {0}
HasFrames s who mine (Submit r entries) = (f : ℕ) → times s f entries ≤ (if has s who mine f then 1 else 0)
HasFrames s who mine (Peek r n entries) = Unit {0}
HasFrames s who mine (Release r n) = Unit {0}
HasFrames s who mine (Cancel r n) = Unit {0}

-- no frame of the entries that are put back was submitted since they were peeked
abbrev pub IsUntouched : Setting → List Call → Call → Type 0
IsUntouched s mine (Reserve r n answer) = Unit {0}
IsUntouched s mine (Free r n places) = Unit {0}
IsUntouched s mine (Submit r entries) = Unit {0}
IsUntouched s mine (Peek r n entries) = Unit {0}
IsUntouched s mine (Release r n) = Unit {0}
IsUntouched s mine (Cancel r n) = All (λ (h : Held). IsTrue h.untouched) (last n (held_of s r mine))

-- ---- what may come on RX and COMPLETION

-- on RX of a socket: an entry in a frame that came from FILL, by the rule from that of the socket's own pair
pub record IsReceived (s : Setting) (from : ℕ → Option Ring) (socket : ℕ) (entry : XdpDesc) : Type 0 where
  pub lawful : IsTrue (is_received s entry)
  pub pair : ℕ
  pub filled : from (frame s entry) ≡ Some (Fill pair)
  pub feeds : IsTrue s.rules.own → pair ≡ pair_of s (Rx socket)

-- on COMPLETION of a pair: an address alone, in a frame that came from TX of that pair, or in none
pub record IsCompleted (s : Setting) (from : ℕ → Option Ring) (pair : ℕ) (entry : XdpDesc) : Type 0 where
  pub len : entry.len ≡ 0
  pub options : entry.options ≡ 0
  pub sent : IsTrue (is_inside s.geometry entry) → (socket : ℕ) × (from (frame s entry) ≡ Some (Tx socket)) × (pair_of s (Tx socket) ≡ pair)

-- What may come on a ring that the kernel produces, where `from` tells from which ring each frame came to it. Of entries that name no
-- frame, which TX made invalid, only the number is asked for: no more on COMPLETION than `strays`.
abbrev pub MayCome : Setting → (ℕ → Option Ring) → ℕ → Ring → List XdpDesc → Type 0
MayCome s from strays (Fill d) entries = Unit {0}
MayCome s from strays (Comp d) entries = All (IsCompleted s from d) entries × (strays_in s entries ≤ strays)
MayCome s from strays (Rx k) entries = All (IsReceived s from k) entries
MayCome s from strays (Tx k) entries = Unit {0}

abbrev pub IsPut : Setting → List Call → Call → Type 0
IsPut s mine (Reserve r n answer) = Unit {0}
IsPut s mine (Free r n places) = Unit {0}
IsPut s mine (Submit r entries) = MayCome s (source_of s mine) (strays_taken s (pair_of s r) mine) r entries
IsPut s mine (Peek r n entries) = Unit {0}
IsPut s mine (Release r n) = Unit {0}
IsPut s mine (Cancel r n) = Unit {0}

-- a call that a party may make after its own earlier ones
pub record IsLegal (s : Setting) (who : Party) (mine : List Call) (call : Call) : Type 0 where
  pub known : HasRing s (ring_of call)
  pub role : HasRole who call
  pub counted : IsCounted s mine call
  pub frames : HasFrames s who mine call
  pub untouched : IsUntouched s mine call
  pub put : IsPut s mine call
