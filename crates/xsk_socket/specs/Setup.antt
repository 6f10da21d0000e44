-- The setup of sockets over one UMEM, as what its accepted calls leave (af_xdp.rst, "Concepts", "XDP_SHARED_UMEM bind
-- flag" and "XDP_USE_NEED_WAKEUP bind flag"; if_xdp.h for the flags). That a UMEM has at most 64 sockets is this project's
-- own.
use Rattle.std.specs.Prelude.{◌≡◌, ℕ, ◌+◌, ◌==◌, ◌&&◌, Bool, List, [], ◌∷◌, ◌++◌, Option, Some, None, is_some, unwrap_or, if◌then◌else◌, true, false}
use Rattle.std.specs.List.{list_any, slice_index_or}
use Rattle.xsk_umem.specs.Geometry.{Geometry}
use Rattle.xsk_model.specs.declared.config.PairInfo.{PairInfo}
use Rattle.xsk_socket.specs.declared.socket.Binding.{Binding}
use Rattle.xsk_socket.specs.declared.socket.RingKind.{RingKind}
use Rattle.xsk_socket.specs.declared.socket.RingKind.TheVariants.{Rx, Tx, Fill, Comp}
use Rattle.xsk_socket.specs.declared.socket.Socket.{Socket}
use Rattle.xsk_socket.specs.Regular.{numbered}

-- ---- what a setup is

-- the sockets by number, the pairs of FILL and COMPLETION in the order in which they came, and the flags of the first
-- socket that was bound, where one is
pub record State : Type 0 where
  pub geometry : Geometry
  pub ports : ℕ
  pub queues : ℕ
  pub sockets : List Socket
  pub pairs : List PairInfo
  pub flags : Option ℕ

abbrev pub no_socket : Socket
no_socket = record { rx = None; tx = None; fill = None; comp = None; bound = None }

abbrev pub socket_at : List Socket → ℕ → Socket
socket_at sockets s = slice_index_or sockets s no_socket

abbrev pub is_bound : Socket → Bool
is_bound x = is_some x.bound

-- the size of a socket's ring of a kind
abbrev pub ring_in : RingKind → Socket → Option ℕ
ring_in Rx x = x.rx
ring_in Tx x = x.tx
ring_in Fill x = x.fill
ring_in Comp x = x.comp

abbrev pub has_pair : List PairInfo → ℕ → ℕ → Bool
has_pair pairs port queue = list_any (λ (p : PairInfo). p.port == port && p.queue == queue) pairs

-- ---- the accepted calls, the last one first

pub data Made : Type 0 where
  socket : Made
  -- the socket, the ring's kind and its size
  ring : ℕ → RingKind → ℕ → Made
  -- the socket, the port, the queue and the flags
  bind : ℕ → ℕ → ℕ → ℕ → Made

-- the number of sockets
abbrev pub sockets_of : List Made → ℕ
sockets_of [] = 0
sockets_of (socket ∷ before) = sockets_of before + 1
sockets_of (ring s kind size ∷ before) = sockets_of before
sockets_of (bind s port queue flags ∷ before) = sockets_of before

abbrev pub is_kind : RingKind → RingKind → Bool
is_kind Rx Rx = true
is_kind Tx Tx = true
is_kind Fill Fill = true
is_kind Comp Comp = true
is_kind _ _ = false

-- the size of a socket's ring of a kind, where it was given one since it was made
abbrev pub ring_of : RingKind → ℕ → List Made → Option ℕ
ring_of kind s [] = None
ring_of kind s (socket ∷ before) = if s == sockets_of before then None else ring_of kind s before
ring_of kind s (ring t other size ∷ before) = if t == s && is_kind other kind then Some size else ring_of kind s before
ring_of kind s (bind t port queue flags ∷ before) = ring_of kind s before

-- where a socket is bound
abbrev pub place_of : ℕ → List Made → Option Binding
place_of s [] = None
place_of s (socket ∷ before) = if s == sockets_of before then None else place_of s before
place_of s (ring t kind size ∷ before) = place_of s before
place_of s (bind t port queue flags ∷ before) = if t == s then Some (record { port = port; queue = queue }) else place_of s before

-- a socket with its rings and its place
abbrev pub socket_of : List Made → ℕ → Socket
socket_of calls s = record {
  rx = ring_of Rx s calls;
  tx = ring_of Tx s calls;
  fill = ring_of Fill s calls;
  comp = ring_of Comp s calls;
  bound = place_of s calls;
}

-- the FILL and COMPLETION of the first socket on a port and queue are the pair there
abbrev pub pairs_of : List Made → List PairInfo
pairs_of [] = []
pairs_of (socket ∷ before) = pairs_of before
pairs_of (ring s kind size ∷ before) = pairs_of before
pairs_of (bind s port queue flags ∷ before) =
    if has_pair (pairs_of before) port queue then pairs_of before
    else pairs_of before ++ (record { port = port; queue = queue; fill = unwrap_or (ring_of Fill s before) 0; comp = unwrap_or (ring_of Comp s before) 0 }) ∷ []

-- the flags of the first bind
abbrev pub flags_of : List Made → Option ℕ
flags_of [] = None
flags_of (socket ∷ before) = flags_of before
flags_of (ring s kind size ∷ before) = flags_of before
flags_of (bind s port queue flags ∷ before) = Some (unwrap_or (flags_of before) flags)

-- the setup is what these calls leave
pub record StandsFor (calls : List Made) (s : State) : Type 0 where
  pub sockets : s.sockets ≡ numbered (sockets_of calls) (socket_of calls)
  pub pairs : s.pairs ≡ pairs_of calls
  pub flags : s.flags ≡ flags_of calls

-- the UMEM, ports and queues stay
pub record IsOver (s : State) (g : Geometry) (p q : ℕ) : Type 0 where
  pub geometry : s.geometry ≡ g
  pub ports : s.ports ≡ p
  pub queues : s.queues ≡ q
