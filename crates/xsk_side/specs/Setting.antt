-- The setting of a recording: one UMEM in aligned mode, and the rings of its sockets (af_xdp.rst, "Concepts", "UMEM" and
-- "XDP_SHARED_UMEM bind flag"). The limits of the sizes are this project's own.
use Rattle.std.specs.Prelude.{ℕ, ◌+◌, ◌^◌, ◌<◌, ◌≤◌, ◌⊎◌, IsTrue, List, length, All, None, IsSome, IfSome, unwrap_or}
use Rattle.std.specs.List.{slice_index_or}
use Rattle.std.specs.Int.{is_power_of_two}
use Rattle.xsk_umem.specs.Geometry.{Geometry}
use Rattle.xsk_umem.specs.Limits.{reserved_bytes}
use Rattle.xsk_model.specs.declared.call.Ring.{Ring}
use Rattle.xsk_model.specs.declared.call.Ring.TheVariants.{Fill, Comp, Rx, Tx}
use Rattle.xsk_side.specs.declared.setting.Pair.{Pair}
use Rattle.xsk_side.specs.declared.setting.Socket.{Socket}
use Rattle.xsk_side.specs.declared.setting.Rules.{Rules}

-- the UMEM, the pairs of FILL and COMPLETION, the sockets, and what the kernel may put into RX
pub record Setting : Type 0 where
  pub geometry : Geometry
  pub pairs : List Pair
  pub sockets : List Socket
  pub rules : Rules

-- the pair of a number, and the socket; where there is none, one with no rings
abbrev pub pair_at : Setting → ℕ → Pair
pair_at s d = slice_index_or s.pairs d (record { fill = 0; comp = 0 })

abbrev pub socket_at : Setting → ℕ → Socket
socket_at s k = slice_index_or s.sockets k (record { pair = 0; rx = None; tx = None })

-- a ring that the setting has
abbrev pub HasRing : Setting → Ring → Type 0
HasRing s (Fill d) = d < length s.pairs
HasRing s (Comp d) = d < length s.pairs
HasRing s (Rx k) = (k < length s.sockets) × IsSome (socket_at s k).rx
HasRing s (Tx k) = (k < length s.sockets) × IsSome (socket_at s k).tx

-- the places of a ring
abbrev pub size_of : Setting → Ring → ℕ
size_of s (Fill d) = (pair_at s d).fill
size_of s (Comp d) = (pair_at s d).comp
size_of s (Rx k) = unwrap_or (socket_at s k).rx 0
size_of s (Tx k) = unwrap_or (socket_at s k).tx 0

-- the pair of a ring: its own, or that of its socket
abbrev pub pair_of : Setting → Ring → ℕ
pair_of s (Fill d) = d
pair_of s (Comp d) = d
pair_of s (Rx k) = (socket_at s k).pair
pair_of s (Tx k) = (socket_at s k).pair

-- ---- what is a setting

abbrev pub AreFrames : ℕ → Type 0
AreFrames frames = (1 ≤ frames) × (frames ≤ 2 ^ 20)

abbrev pub IsChunk : ℕ → ℕ → Type 0
IsChunk chunk headroom = headroom + reserved_bytes < chunk

-- any chunk with a byte behind the headroom and the reserved bytes
pub record IsUmem (g : Geometry) : Type 0 where
  pub frames : AreFrames g.frames
  pub chunk : IsChunk g.chunk g.headroom

-- a ring's size: a power of two (af_xdp.rst, "Rings") from 1 to 2^20
pub record IsRingSize (size : ℕ) : Type 0 where
  pub power : IsTrue (is_power_of_two size)
  pub most : size ≤ 2 ^ 20

pub record IsPair (pair : Pair) : Type 0 where
  pub fill : IsRingSize pair.fill
  pub comp : IsRingSize pair.comp

-- a socket has a ring at least, and uses a pair that is there
pub record IsSocket (pairs : List Pair) (socket : Socket) : Type 0 where
  pub pair : socket.pair < length pairs
  pub ring : IsSome socket.rx ⊎ IsSome socket.tx
  pub rx : IfSome socket.rx IsRingSize
  pub tx : IfSome socket.tx IsRingSize

abbrev pub ArePairs : List Pair → Type 0
ArePairs pairs = (1 ≤ length pairs) × (length pairs ≤ 64) × All IsPair pairs

abbrev pub AreSockets : List Pair → List Socket → Type 0
AreSockets pairs sockets = (1 ≤ length sockets) × (length sockets ≤ 64) × All (IsSocket pairs) sockets

pub record IsSetting (s : Setting) : Type 0 where
  pub umem : IsUmem s.geometry
  pub pairs : ArePairs s.pairs
  pub sockets : AreSockets s.pairs s.sockets
