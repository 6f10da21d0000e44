-- Why a call of a setup is refused: the first of its conditions that holds. The conditions are of af_xdp.rst and of the
-- kernel's checks; their order and their names are this project's own.
use Rattle.std.specs.Prelude.{ℕ, ◌==◌, ◌&&◌, ◌||◌, not, nat_lt, nat_le, Bool, false, List, [], ◌∷◌, ◌++◌, length, Option, Some, None, is_some, bit_and, if◌then◌else◌}
use Rattle.std.specs.List.{list_all}
use Rattle.xsk_socket.specs.declared.socket.RingKind.{RingKind}
use Rattle.xsk_socket.specs.declared.error.SetupError.{SetupError}
use Rattle.xsk_socket.specs.declared.error.SetupError.TheVariants.{NoSuchSocket, BadSize, RingTwice, AlreadyBound, NoRing, NoPair, PairTwice, BadFlags, NoZeroCopy, NotBoundYet, NoSuchQueue, TooMany}
use Rattle.xsk_socket.specs.Layout.{is_ring_size}
use Rattle.xsk_socket.specs.Setup.{State, has_pair, is_bound, ring_in, socket_at}
use Rattle.xsk_socket.specs.declared.socket.Socket.{Socket}

-- a condition, and the refusal where it holds
abbrev pub Refusal : Type 0
Refusal = Bool × SetupError

abbrev pub first_of : List Refusal → Option SetupError
first_of [] = None
first_of (r ∷ rest) = if r.0 then Some r.1 else first_of rest

abbrev pub socket_refusal : State → Option SetupError
socket_refusal s = first_of ((nat_le 64 (length s.sockets), TooMany) ∷ [])

abbrev pub ring_refusal : State → ℕ → RingKind → ℕ → Option SetupError
ring_refusal s number kind size =
    let own = socket_at s.sockets number in
    first_of (
    (nat_le (length s.sockets) number, NoSuchSocket)
    ∷ (is_bound own, AlreadyBound)
    ∷ (not (is_ring_size size), BadSize)
    ∷ (is_some (ring_in kind own), RingTwice)
    ∷ []
    )

-- XDP_SHARED_UMEM 1, XDP_COPY 2, XDP_ZEROCOPY 4, XDP_USE_NEED_WAKEUP 8, XDP_USE_SG 16
abbrev pub has_flag : ℕ → ℕ → Bool
has_flag flags flag = not (bit_and flags flag == 0)

-- a flag that isn't known; XDP_SHARED_UMEM without a socket to share with, a socket without it, or it beside another flag;
-- both modes; or a first bind where a socket is bound
abbrev pub are_bad : ℕ → Option ℕ → Option ℕ → Bool
are_bad flags shared first =
    nat_lt 31 flags
    || (has_flag flags 1 && not (is_some shared))
    || (not (has_flag flags 1) && is_some shared)
    || (has_flag flags 1 && not (flags == 1))
    || (has_flag flags 2 && has_flag flags 4)
    || (not (has_flag flags 1) && is_some first)

abbrev pub other_is_bound : List Socket → Option ℕ → Bool
other_is_bound sockets None = false
other_is_bound sockets (Some other) = is_bound (socket_at sockets other)

abbrev pub on_socket : State → ℕ → List Refusal
on_socket s number =
    (nat_le (length s.sockets) number, NoSuchSocket)
    ∷ (is_bound (socket_at s.sockets number), AlreadyBound)
    ∷ []

abbrev pub on_flags : State → ℕ → Option ℕ → List Refusal
on_flags s flags shared =
    (are_bad flags shared s.flags, BadFlags)
    ∷ (has_flag flags 4, NoZeroCopy)
    ∷ (has_flag flags 1 && not (other_is_bound s.sockets shared), NotBoundYet)
    ∷ []

abbrev pub on_place : State → Socket → ℕ → ℕ → List Refusal
on_place s own port queue =
    (nat_le s.ports port || nat_le s.queues queue, NoSuchQueue)
    ∷ (not (is_some own.rx || is_some own.tx), NoRing)
    ∷ (not (has_pair s.pairs port queue) && not (is_some own.fill && is_some own.comp), NoPair)
    ∷ (has_pair s.pairs port queue && (is_some own.fill || is_some own.comp), PairTwice)
    ∷ []

abbrev pub bind_refusal : State → ℕ → ℕ → ℕ → ℕ → Option ℕ → Option SetupError
bind_refusal s number port queue flags shared =
    first_of (on_socket s number ++ on_flags s flags shared ++ on_place s (socket_at s.sockets number) port queue)

abbrev pub seal_refusal : State → Option SetupError
seal_refusal s = first_of ((length s.sockets == 0 || not (list_all is_bound s.sockets), NotBoundYet) ∷ [])
