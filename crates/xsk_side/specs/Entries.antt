-- Entries of rings, and the frames that they name (af_xdp.rst, "UMEM" and "UMEM Fill Ring"; `struct xdp_desc` of if_xdp.h).
-- A frame is a chunk of the UMEM: in aligned mode an entry names the one in which its address lies, and none where that lies
-- outside.
use Rattle.std.specs.Prelude.{ℕ, ◌+◌, ◌/◌, ◌-◌, Bool, ◌&&◌, ◌||◌, ◌==◌, not, nat_lt, if◌then◌else◌, List, [], ◌∷◌, length, take, drop}
use Rattle.xsk_umem.specs.Geometry.{data_of, payload_of}
use Rattle.xsk_umem.specs.declared.batch.XdpDesc.{XdpDesc}
use Rattle.xsk_model.specs.Descriptor.{is_inside, is_valid}
use Rattle.xsk_side.specs.Setting.{Setting}

-- the frame of an address in the UMEM
abbrev pub frame : Setting → XdpDesc → ℕ
frame s entry = entry.addr / s.geometry.chunk

-- whether an entry names a frame
abbrev pub names : Setting → ℕ → XdpDesc → Bool
names s f entry = is_inside s.geometry entry && frame s entry == f

-- how many of the entries name a frame, and how many name none
abbrev pub times : Setting → ℕ → List XdpDesc → ℕ
times s f [] = 0
times s f (entry ∷ entries) = (if names s f entry then 1 else 0) + times s f entries

abbrev pub strays_in : Setting → List XdpDesc → ℕ
strays_in s [] = 0
strays_in s (entry ∷ entries) = (if is_inside s.geometry entry then 0 else 1) + strays_in s entries

-- whether one of the entries names the frame
abbrev pub stands : Setting → ℕ → List XdpDesc → Bool
stands s f entries = nat_lt 0 (times s f entries)

-- at the frame's data, and full where the packet goes on: as copy mode lays packets
abbrev pub is_laid : Setting → XdpDesc → Bool
is_laid s entry = entry.addr == data_of s.geometry (frame s entry) && (entry.options == 0 || entry.len == payload_of s.geometry)

-- an entry that a kernel may put into RX, but for the frame that it names: a valid descriptor, and by the rule one that is laid so
abbrev pub is_received : Setting → XdpDesc → Bool
is_received s entry = is_valid s.geometry s.rules.sg entry && (not s.rules.at_data || is_laid s entry)

-- the last n of a list, and those before them
abbrev pub last : {X : Type 0} → ℕ → List X → List X
last n xs = drop (length xs - n) xs

abbrev pub but_last : {X : Type 0} → ℕ → List X → List X
but_last n xs = take (length xs - n) xs
