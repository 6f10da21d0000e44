-- The configuration of a set of sockets over one UMEM (af_xdp.rst, "Concepts" and "XDP_SHARED_UMEM bind flag").
use Rattle.std.specs.Prelude.{◌≡◌, ℕ, ◌+◌, ◌*◌, ◌/◌, ◌%◌, ◌^◌, ◌<◌, ◌≤◌, ◌⊎◌, ◌&&◌, ◌==◌, Bool, List, [], ◌∷◌, ◌++◌, length, min, All, Any, EachIndex, Option, Some, None, IsSome, IfSome, count_by, slice_set, unwrap_or}
use Rattle.std.specs.List.{flat_map, slice_index_or}
use Rattle.xsk_umem.specs.Geometry.{Geometry}
use Rattle.xsk_umem.specs.Limits.{most_items}
use Rattle.xsk_model.specs.declared.config.SocketInfo.{SocketInfo}
use Rattle.xsk_model.specs.declared.config.PairInfo.{PairInfo}
use Rattle.xsk_model.specs.declared.call.Ring.{Ring}
use Rattle.xsk_model.specs.declared.call.Ring.TheVariants.{Fill, Comp, Rx, Tx}

-- the UMEM, the device's ports and queues, the sockets with their bindings, the pairs of FILL and COMPLETION, the
-- XSKMAP of each port, whether XDP_USE_SG and XDP_USE_NEED_WAKEUP are set, and the socket that is to be closed while
-- traffic flows
pub record Config : Type 0 where
  pub geometry : Geometry
  pub ports : ℕ
  pub queues : ℕ
  pub sockets : List SocketInfo
  pub pairs : List PairInfo
  pub cells : List (List ℕ)
  pub sg : Bool
  pub wakeup : Bool
  pub closing : Option ℕ

-- a ring's size: a power of two (af_xdp.rst, "Rings") from 2 to 2,048
pub record IsRingSize (size : ℕ) : Type 0 where
  pub power : (k : ℕ) × (size ≡ 2 ^ k)
  pub least : 2 ≤ size
  pub most : size ≤ 2048

-- how many pairs a port's queue has
abbrev pub pairs_at : List PairInfo → ℕ → ℕ → ℕ
pairs_at pairs port queue = count_by (λ (p : PairInfo). p.port == port && p.queue == queue) pairs

-- the socket of a number; where there is none, one with no rings
abbrev pub socket_at : List SocketInfo → ℕ → SocketInfo
socket_at sockets s = slice_index_or sockets s (record { port = 0; queue = 0; rx = None; tx = None })

-- a socket has a ring at least, and is bound to a queue that has one pair
pub record IsBound (ports queues : ℕ) (pairs : List PairInfo) (socket : SocketInfo) : Type 0 where
  pub port : socket.port < ports
  pub queue : socket.queue < queues
  pub pair : pairs_at pairs socket.port socket.queue ≡ 1
  pub ring : IsSome socket.rx ⊎ IsSome socket.tx
  pub rx : IfSome socket.rx IsRingSize
  pub tx : IfSome socket.tx IsRingSize

-- a pair's queue has a socket, and the pair's rings have sizes
pub record IsServed (sockets : List SocketInfo) (pair : PairInfo) : Type 0 where
  pub socket : Any (λ (s : SocketInfo). (s.port ≡ pair.port) × (s.queue ≡ pair.queue)) sockets
  pub fill : IsRingSize pair.fill
  pub comp : IsRingSize pair.comp

-- an XSKMAP has at most 64 cells, each empty or with the number of a socket, counted from 1
pub record IsMap (sockets : ℕ) (map : List ℕ) : Type 0 where
  pub few : length map ≤ 64
  pub known : All (λ v. v ≤ sockets) map

-- a socket that may be closed is there, with both rings
abbrev pub IsClosable : List SocketInfo → ℕ → Type 0
IsClosable sockets s = (s < length sockets) × IsSome (socket_at sockets s).rx × IsSome (socket_at sockets s).tx

-- what holds of every configuration; that there are 1 to 64 pairs follows from the other parts
pub record IsConfig (c : Config) : Type 0 where
  pub ports : (c.ports ≡ 2) ⊎ (c.ports ≡ 4)
  pub queues : (c.queues ≡ 1) ⊎ (c.queues ≡ 2) ⊎ (c.queues ≡ 4)
  pub some : 1 ≤ length c.sockets
  pub few : length c.sockets ≤ 64
  pub pairs_some : 1 ≤ length c.pairs
  pub pairs_few : length c.pairs ≤ 64
  pub bound : All (IsBound c.ports c.queues c.pairs) c.sockets
  pub served : All (IsServed c.sockets) c.pairs
  pub maps : length c.cells ≡ c.ports
  pub cells : All (IsMap (length c.sockets)) c.cells
  pub closing : IfSome c.closing (IsClosable c.sockets)

-- one driver for each pair, and one application for each queue of two paired ports
abbrev pub callers_of : Config → ℕ
callers_of c = length c.pairs + (c.ports / 2) * c.queues

-- the frames of one home pool
abbrev pub pool_of : Config → ℕ
pool_of c = c.geometry.frames / length c.pairs

-- the XSKMAP of a port
abbrev pub map_of : Config → ℕ → List ℕ
map_of c port = slice_index_or c.cells port []

-- the configuration with another number in a cell
abbrev pub with_cell : Config → ℕ → ℕ → ℕ → Config
with_cell c port index value = record c { cells = slice_set c.cells port (slice_set (map_of c port) index value) }

-- the pair of a number; where there is none, one with no rings
abbrev pub pair_at : List PairInfo → ℕ → PairInfo
pair_at pairs d = slice_index_or pairs d (record { port = 0; queue = 0; fill = 0; comp = 0 })

-- a ring that the configuration has
abbrev pub HasRing : Config → Ring → Type 0
HasRing c (Fill d) = d < length c.pairs
HasRing c (Comp d) = d < length c.pairs
HasRing c (Rx s) = (s < length c.sockets) × IsSome (socket_at c.sockets s).rx
HasRing c (Tx s) = (s < length c.sockets) × IsSome (socket_at c.sockets s).tx

-- the entries of a ring
abbrev pub size_of : Config → Ring → ℕ
size_of c (Fill d) = (pair_at c.pairs d).fill
size_of c (Comp d) = (pair_at c.pairs d).comp
size_of c (Rx s) = unwrap_or (socket_at c.sockets s).rx 0
size_of c (Tx s) = unwrap_or (socket_at c.sockets s).tx 0

-- a number and the least of it and some others
abbrev pub least : ℕ → List ℕ → ℕ
least n [] = n
least n (x ∷ xs) = least (min n x) xs

abbrev pub pair_sizes : PairInfo → List ℕ
pair_sizes pair = pair.fill ∷ pair.comp ∷ []

abbrev pub size_or_none : Option ℕ → List ℕ
size_or_none None = []
size_or_none (Some size) = size ∷ []

abbrev pub socket_sizes : SocketInfo → List ℕ
socket_sizes socket = size_or_none socket.rx ++ size_or_none socket.tx

-- the most items of one call: 32, or the least ring's size where that is less
abbrev pub batch_of : Config → ℕ
batch_of c = least most_items (flat_map pair_sizes c.pairs ++ flat_map socket_sizes c.sockets)

-- the pairs divide the frames into pools, and each pool fits each FILL ring
pub record IsLawful (c : Config) : Type 0 where
  pub divides : c.geometry.frames % length c.pairs ≡ 0
  pub some : 1 ≤ pool_of c
  pub fits : All (λ (p : PairInfo). pool_of c ≤ p.fill) c.pairs

-- the sockets of each queue
abbrev pub classes_of : Config → ℕ
classes_of c = length c.sockets / length c.pairs

-- a pair has the place of its number: all queues of port 0, then those of port 1, and so on
abbrev pub IsPairOf : ℕ → ℕ → PairInfo → Type 0
IsPairOf queues d pair = (pair.port ≡ d / queues) × (pair.queue ≡ d % queues)

-- so has a socket, with as many sockets of each queue as there are classes; it has both rings
abbrev pub IsSocketOf : ℕ → ℕ → ℕ → SocketInfo → Type 0
IsSocketOf queues classes s socket = (socket.port ≡ (s / classes) / queues) × (socket.queue ≡ (s / classes) % queues) × IsSome socket.rx × IsSome socket.tx

abbrev pub ArePairsInOrder : ℕ → List PairInfo → Type 0
ArePairsInOrder queues pairs = EachIndex pairs (λ d. IsPairOf queues d (pair_at pairs d))

abbrev pub AreSocketsInOrder : ℕ → ℕ → List SocketInfo → Type 0
AreSocketsInOrder queues classes sockets = EachIndex sockets (λ s. IsSocketOf queues classes s (socket_at sockets s))

-- a pair for each queue of each port, and 1, 2 or 4 sockets for each pair, all numbered by port, queue and class
pub record IsRegular (c : Config) : Type 0 where
  pub lawful : IsLawful c
  pub pairs : length c.pairs ≡ c.ports * c.queues
  pub seats : ArePairsInOrder c.queues c.pairs
  pub classes : (classes_of c ≡ 1) ⊎ (classes_of c ≡ 2) ⊎ (classes_of c ≡ 4)
  pub sockets : length c.sockets ≡ length c.pairs * classes_of c
  pub places : AreSocketsInOrder c.queues (classes_of c) c.sockets
