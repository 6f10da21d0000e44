-- What a command can ask for, and why it is refused. A ring has a power of two of entries (af_xdp.rst, "Rings"); the
-- other limits, their order and their names are this project's own.
use Rattle.std.specs.Prelude.{ℕ, ◌-◌, ◌*◌, ◌/◌, ◌%◌, ◌^◌, ◌==◌, ◌&&◌, ◌||◌, nat_lt, nat_le, Bool, false, List, [], ◌∷◌, ◌++◌, Option, Some, None, if◌then◌else◌}
use Rattle.std.specs.List.{list_any, range_with_len}
use Rattle.xsk_umem.specs.Geometry.{Geometry}
use Rattle.xsk_umem.specs.Limits.{reserved_bytes, most_frames}
use Rattle.xsk_socket.specs.declared.layout.Layout.{Layout}
use Rattle.xsk_socket.specs.declared.layout.Unlawful.{Unlawful}
use Rattle.xsk_socket.specs.declared.layout.Unlawful.TheVariants.{Ports, Queues, Sockets, Files, Chunk, Headroom, Frames, Rx, Tx, Fill, Comp, Pool, Empty, Close, Hands}

abbrev pub is_port_count : ℕ → Bool
is_port_count n = n == 2 || n == 4

abbrev pub is_count : ℕ → Bool
is_count n = n == 1 || n == 2 || n == 4

-- a power of two from 2 to 2,048, so one of 2 ^ 1 to 2 ^ 11
abbrev pub is_ring_size : ℕ → Bool
is_ring_size size = list_any (λ k. size == 2 ^ k) (range_with_len 1 11)

abbrev pub pairs_in : Layout → ℕ
pairs_in l = l.ports * l.queues

abbrev pub cells_in : Layout → ℕ
cells_in l = l.queues * l.sockets

abbrev pub sockets_in : Layout → ℕ
sockets_in l = pairs_in l * l.sockets

-- the frames of each pair's home pool
abbrev pub pool_in : Layout → ℕ
pool_in l = l.frames / pairs_in l

-- what is asked of a layout, and the refusal where it isn't so
abbrev pub Demand : Type 0
Demand = Bool × Unlawful

abbrev pub on_counts : Layout → List Demand
on_counts l =
    (is_port_count l.ports, Ports l.ports)
    ∷ (is_count l.queues, Queues l.queues)
    ∷ (is_count l.sockets, Sockets l.sockets)
    ∷ (l.files == l.files_wanted_per_port * l.ports, Files l.files)
    ∷ []

abbrev pub on_umem : Layout → List Demand
on_umem l =
    (l.chunk == 2048 || l.chunk == 4096, Chunk l.chunk)
    ∷ (nat_lt l.headroom (l.chunk - reserved_bytes), Headroom l.headroom)
    ∷ (nat_lt 0 l.frames && nat_le l.frames most_frames && (l.frames % pairs_in l == 0), Frames l.frames)
    ∷ []

abbrev pub on_rings : Layout → List Demand
on_rings l =
    (is_ring_size l.rx, Rx l.rx)
    ∷ (is_ring_size l.tx, Tx l.tx)
    ∷ (is_ring_size l.fill, Fill l.fill)
    ∷ (is_ring_size l.comp, Comp l.comp)
    ∷ (nat_le (pool_in l) l.fill, Pool (pool_in l))
    ∷ []

abbrev pub on_empty : Option ℕ → ℕ → List Demand
on_empty None cells = []
on_empty (Some cell) cells = (nat_lt cell cells, Empty cell) ∷ []

-- the socket that is to be closed is one of the layout's
abbrev pub on_close : Option ℕ → ℕ → List Demand
on_close None sockets = []
on_close (Some socket) sockets = (nat_lt socket sockets, Close socket) ∷ []

abbrev pub on_hands : Layout → List Demand
on_hands l = (is_count l.hands, Hands l.hands) ∷ []

-- all that is asked, in order
abbrev pub demands : Layout → List Demand
demands l = on_counts l ++ on_umem l ++ on_rings l ++ on_empty l.empty (cells_in l) ++ on_close l.close (sockets_in l) ++ on_hands l

abbrev pub first_unmet : List Demand → Option Unlawful
first_unmet [] = None
first_unmet (d ∷ rest) = if d.0 then first_unmet rest else Some d.1

-- the refusal of a layout: the first demand that it doesn't meet. It is accepted where there is none
abbrev pub fault_of : Layout → Option Unlawful
fault_of l = first_unmet (demands l)

-- the geometry of its UMEM
abbrev pub geometry_of : Layout → Geometry
geometry_of l = record { frames = l.frames; chunk = l.chunk; headroom = l.headroom }

-- the entries of each ring, where a command says nothing of it
abbrev pub usual_entries : ℕ
usual_entries = 2048

-- the layout of a command that says nothing of it
abbrev pub usual : Layout
usual = record {
  ports = 2;
  queues = 1;
  sockets = 1;
  files = 0;
  files_wanted_per_port = 0;
  chunk = 4096;
  headroom = 0;
  frames = 256;
  rx = usual_entries;
  tx = usual_entries;
  fill = usual_entries;
  comp = usual_entries;
  sg = false;
  wakeup = false;
  empty = None;
  close = None;
  hands = 1;
}
