-- The rings and marks of a driver in a regular configuration, and the numbers of its calls.
use Rattle.std.proofs.Common.{◌≡◌, ℕ, zero, suc, ◌+◌, ◌*◌, ◌/◌, ◌%◌, ◌<◌, ◌≤◌, min, Bool, true, false, cond, eqb, ◌&&◌, get_or, eq-eqb, Option, None, Some, List, [], ◌∷◌, ◌++◌, length, flat_map, All, IfSome, sym, ap, ◌∙◌, arith, mul-le-mul_right, ◌⊎◌, inl, inr}
use Rattle.std.proofs.lemmas.Bool.{and_from}
use Rattle.std.proofs.Math.Nat.{div-lt_iff_lt-mul}
use Rattle.std.proofs.lemmas.Nat.{div-mul-add}
use Rattle.std.proofs.lemmas.List.Elements.{All-head, All-tail}
use Rattle.xsk_model.proofs.Few.{queues_few}
use Rattle.xsk_turns.proofs.Object.{Config, pair_at, IsConfig, IsBound, IsServed, IsRingSize, HasRing, socket_at, callers_of, classes_of, batch_of, least, pair_sizes, size_or_none, socket_sizes, PairInfo, SocketInfo, port_of, queue_of, producer, consumer, apps_of, times, sockets_from, sockets_of, IsRegular}
use Rattle.xsk_model.specs.declared.call.Ring.TheVariants.{Fill, Rx, Tx}
use Rattle.xsk_model.proofs.Least.{least-append}
use Rattle.xsk_model.proofs.Roles.{pair_on_only, app_of_below}
use Rattle.xsk_model.specs.Rings.{application_on}
use Rattle.xsk_turns.specs.Owned.{IsSeat, IsHere, socket_at_class}

-- ---- the pairs

pub queues_some : (q : ℕ) → ((q ≡ 1) ⊎ (q ≡ 2) ⊎ (q ≡ 4)) → 0 < q
queues_some q h = elim h [ inl e ↦ omega arith | inr f ↦ elim f [ inl e ↦ omega arith | inr e ↦ omega arith ] ]

pub port_within : (c : Config) (d : ℕ) → IsConfig c → IsRegular c → d < length c.pairs → (pair_at c.pairs d).port < c.ports
port_within c d is regular within =
    let some : 0 < c.queues = queues_some c.queues is.queues in
    let below : d < c.ports * c.queues = omega (arith, regular.pairs) in
    rw (regular.seats d within).0 ((div-lt_iff_lt-mul {k = c.queues} {x = d} {y = c.ports} some).1 below)

pub queue_known : (c : Config) (d : ℕ) → IsConfig c → IsRegular c → d < length c.pairs → (pair_at c.pairs d).queue < c.queues
queue_known c d is regular within = let some : 0 < c.queues = queues_some c.queues is.queues in rw (regular.seats d within).1 (omega (arith, some))

pub queue_within : (c : Config) (d : ℕ) → IsConfig c → IsRegular c → d < length c.pairs → (pair_at c.pairs d).queue < 4
queue_within c d is regular within =
    let few = queues_few c is in
    omega (arith, few, queue_known c d is regular within)

-- ---- the batch

least-le : (n : ℕ) (xs : List ℕ) → least n xs ≤ n
least-le n [] = omega arith
least-le n (x ∷ xs) = omega (arith, least-le (min n x) xs)

least-pairs : (n : ℕ) (sockets : List SocketInfo) (pairs : List PairInfo) → 1 ≤ n → All (IsServed sockets) pairs → 1 ≤ least n (flat_map pair_sizes pairs)
least-pairs n sockets [] some h = some
least-pairs n sockets (pair ∷ pairs) some h =
    let served : IsServed sockets pair = All-head (IsServed sockets) pair pairs h in
    least-pairs (min (min n pair.fill) pair.comp) sockets pairs (omega (arith, served.fill.least, served.comp.least)) (All-tail (IsServed sockets) pair pairs h)

least-ring : (n : ℕ) (size : Option ℕ) → 1 ≤ n → IfSome size IsRingSize → 1 ≤ least n (size_or_none size)
least-ring n None some h = some
least-ring n (Some size) some h = omega (arith, h.least)

least-sockets : (n ports queues : ℕ) (pairs : List PairInfo) (sockets : List SocketInfo) → 1 ≤ n → All (IsBound ports queues pairs) sockets
    → 1 ≤ least n (flat_map socket_sizes sockets)
least-sockets n ports queues pairs [] some h = some
least-sockets n ports queues pairs (socket ∷ sockets) some h =
    let bound : IsBound ports queues pairs socket = All-head (IsBound ports queues pairs) socket sockets h in
    let rx = size_or_none socket.rx in
    let tx = size_or_none socket.tx in
    let first = least-ring n socket.rx some bound.rx in
    let both : 1 ≤ least (least n rx) tx = least-ring (least n rx) socket.tx first bound.tx in
    let rest = flat_map socket_sizes sockets in
    let e : least n ((rx ++ tx) ++ rest) ≡ least (least (least n rx) tx) rest = least-append n (rx ++ tx) rest ∙ ap (λ (m : ℕ). least m rest) (least-append n rx tx) in
    let later = least-sockets (least (least n rx) tx) ports queues pairs sockets both (All-tail (IsBound ports queues pairs) socket sockets h) in
    omega (arith, e, later)

batch_is : (c : Config) → batch_of c ≡ least (least 32 (flat_map pair_sizes c.pairs)) (flat_map socket_sizes c.sockets)
batch_is c = least-append 32 (flat_map pair_sizes c.pairs) (flat_map socket_sizes c.sockets)

pub batch_few : (c : Config) → batch_of c ≤ 32
batch_few c = least-le 32 (flat_map pair_sizes c.pairs ++ flat_map socket_sizes c.sockets)

pub batch_some : (c : Config) → IsConfig c → 1 ≤ batch_of c
batch_some c config =
    let first = least-pairs 32 c.sockets c.pairs (omega arith) config.served in
    omega (arith, batch_is c, least-sockets (least 32 (flat_map pair_sizes c.pairs)) c.ports c.queues c.pairs c.sockets first config.bound)

-- ---- the sockets of a queue

more_times : (b : Bool) (m n : ℕ) (xs : List ℕ) → times m xs ≤ times m (cond b (n ∷ xs) xs)
more_times true m n xs = omega arith
more_times false m n xs = omega arith

-- a socket of the port's queue is among its sockets
socket_among : (n k : ℕ) (sockets : List SocketInfo) (port queue : ℕ) (d : SocketInfo) → k < length sockets → (get_or sockets k d).port ≡ port → (get_or sockets k d).queue ≡ queue
    → 1 ≤ times (n + k) (sockets_from n sockets port queue)
socket_among n k [] port queue d h at on = absurd (omega arith)
socket_among n zero (socket ∷ sockets) port queue d h at on =
    let test : (eqb socket.port port && eqb socket.queue queue) ≡ true = and_from (eqb socket.port port) (eqb socket.queue queue) (eq-eqb socket.port port at) (eq-eqb socket.queue queue on) in
    let later = sockets_from (n + 1) sockets port queue in
    let is : times (n + 0) (cond (eqb socket.port port && eqb socket.queue queue) (n ∷ later) later) ≡ times (n + 0) (n ∷ later) = ap (λ (b : Bool). times (n + 0) (cond b (n ∷ later) later)) test in
    let here : ◌≡◌ {A = ℕ} (cond (eqb n (n + 0)) 1 0) 1 = ap {B = ℕ} (λ (b : Bool). cond b 1 0) (eq-eqb n (n + 0) (omega arith)) in
    omega (arith, is, here)
socket_among n (suc k) (socket ∷ sockets) port queue d h at on =
    let later = sockets_from (n + 1) sockets port queue in
    let rest = socket_among (n + 1) k sockets port queue d (omega arith) at on in
    let same : (n + 1) + k ≡ n + suc k = omega arith in
    let more = more_times (eqb socket.port port && eqb socket.queue queue) (n + suc k) n later in
    omega (arith, rest, ap (λ (m : ℕ). times m later) same, more)

-- ---- the sockets

module _ (c : Config) (pair : ℕ) (seat : IsSeat c pair) where
  pub classes_some : 1 ≤ classes_of c
  classes_some = queues_some (classes_of c) seat.regular.classes

  -- the socket of a class is one of this port and queue
  pub class_here : (class : ℕ) → class < classes_of c → IsHere c pair (socket_at_class c pair class)
  class_here class within =
      let s = socket_at_class c pair class in
      let most : suc pair * classes_of c ≤ length c.pairs * classes_of c = mul-le-mul_right (classes_of c) seat.known in
      let next : (p k n : ℕ) → k < n → p * n + k < suc p * n = λ p k n h. grind arith in
      let below : s < length c.sockets = omega (arith, most, seat.regular.sockets, next pair class (classes_of c) within) in
      let at = seat.regular.places s below in
      let mine = seat.regular.seats pair seat.known in
      let same : s / classes_of c ≡ pair = div-mul-add pair (classes_of c) class within in
      record {
        known = below;
        port = at.0 ∙ ap (λ (n : ℕ). n / c.queues) same ∙ sym mine.0;
        queue = at.1 ∙ ap (λ (n : ℕ). n % c.queues) same ∙ sym mine.1;
      }

  -- and so among those of the pair's queue
  pub class_among : (class : ℕ) → class < classes_of c → 1 ≤ times (socket_at_class c pair class) (sockets_of c pair)
  class_among class within =
      let s = socket_at_class c pair class in
      let here = class_here class within in
      let zero_add : 0 + s ≡ s = omega arith in
      omega (
        arith,
        socket_among 0 s c.sockets (pair_at c.pairs pair).port (pair_at c.pairs pair).queue (record { port = 0; queue = 0; rx = None; tx = None }) here.known here.port here.queue,
        ap (λ (n : ℕ). times n (sockets_of c pair)) zero_add,
      )

  -- the driver of such a socket's rings
  driver_is : (s : ℕ) → IsHere c pair s → pair ≡ consumer c (Tx s)
  driver_is s here =
      let bound : IsBound c.ports c.queues c.pairs (socket_at c.sockets s) = seat.config.bound s (record { port = 0; queue = 0; rx = None; tx = None }) here.known in
      sym (pair_on_only c.pairs (port_of c (Tx s)) (queue_of c (Tx s)) pair bound.pair seat.known (sym here.port, sym here.queue))

  pub rx_ring : (s : ℕ) → IsHere c pair s → HasRing c (Rx s) × (pair ≡ producer c (Rx s))
  rx_ring s here = ((here.known, (seat.regular.places s here.known).2), driver_is s here)

  pub tx_ring : (s : ℕ) → IsHere c pair s → HasRing c (Tx s) × (pair ≡ consumer c (Tx s))
  tx_ring s here = ((here.known, (seat.regular.places s here.known).3), driver_is s here)

  pub caller_known : pair < callers_of c
  caller_known = omega (arith, seat.known)

  pub port_known : (pair_at c.pairs pair).port < c.ports
  port_known = port_within c pair seat.config seat.regular seat.known

  pub app_known : application_on c (pair_at c.pairs pair).port (pair_at c.pairs pair).queue < apps_of c
  app_known = omega (arith, app_of_below c (Fill pair) seat.config seat.known)
