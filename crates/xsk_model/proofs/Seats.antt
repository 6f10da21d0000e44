-- Where the drivers, the sockets and the application of a port's queue stand in a regular configuration.
use Rattle.std.proofs.Common.{◌≡◌, ℕ, suc, ◌+◌, ◌*◌, ◌/◌, ◌%◌, ◌<◌, ◌≤◌, length, sym, ap, ◌∙◌, arith, mul-le-mul_right}
use Rattle.std.specs.Prelude.{IsSome, None}
use Rattle.std.proofs.lemmas.Nat.{div-mul-add, mod-mul-add}
use Rattle.xsk_model.specs.Config.{Config, IsConfig, IsRegular, IsBound, pair_at, socket_at, classes_of}
use Rattle.xsk_model.specs.Laws.{RegularSeats}
use Rattle.xsk_model.specs.Rings.{pair_on, application_on, port_of, queue_of, caller_of}
use Rattle.xsk_model.specs.Steering.{driver_on, socket_on}
use Rattle.xsk_model.specs.declared.call.Ring.TheVariants.{Rx}
use Rattle.xsk_model.proofs.Roles.{pair_on_only}

-- the place of column r in row x, where a row has q places
pub below : (x q r n : ℕ) → r < q → suc x * q ≤ n → x * q + r < n
below x q r n h k =
    let e : suc x * q ≡ x * q + q = grind arith in
    omega (arith, h, k, e)

pub record IsAt (c : Config) (p q k d s : ℕ) : Type 0 where
  pub pair_known : d < length c.pairs
  pub pair_port : (pair_at c.pairs d).port ≡ p
  pub pair_queue : (pair_at c.pairs d).queue ≡ q
  pub known : s < length c.sockets
  pub on_port : (socket_at c.sockets s).port ≡ p
  pub on_queue : (socket_at c.sockets s).queue ≡ q
  pub rx : IsSome (socket_at c.sockets s).rx
  pub tx : IsSome (socket_at c.sockets s).tx
  pub driver : pair_on c.pairs (port_of c (Rx s)) (queue_of c (Rx s)) ≡ d
  pub app : application_on c (port_of c (Rx s)) (queue_of c (Rx s)) ≡ (p / 2) * c.queues + q

pub is_at : (c : Config) (p q k : ℕ) → IsConfig c → IsRegular c → p < c.ports → q < c.queues → k < classes_of c → IsAt c p q k (driver_on c p q) (socket_on c p q k)
is_at c p q k config regular port queue class =
    let d = driver_on c p q in
    let s = socket_on c p q k in
    let most : suc p * c.queues ≤ c.ports * c.queues = mul-le-mul_right c.queues port in
    let known : d < length c.pairs = below p c.queues q (length c.pairs) queue (omega (arith, most, regular.pairs)) in
    let more : suc d * classes_of c ≤ length c.pairs * classes_of c = mul-le-mul_right (classes_of c) known in
    let has : s < length c.sockets = below d (classes_of c) k (length c.sockets) class (omega (arith, more, regular.sockets)) in
    let seat = regular.seats d known in
    let at = regular.places s has in
    let pair : s / classes_of c ≡ d = div-mul-add d (classes_of c) k class in
    let on_port : d / c.queues ≡ p = div-mul-add p c.queues q queue in
    let on_queue : d % c.queues ≡ q = mod-mul-add p c.queues q queue in
    let socket_port : (socket_at c.sockets s).port ≡ p = at.0 ∙ ap (λ n. n / c.queues) pair ∙ on_port in
    let socket_queue : (socket_at c.sockets s).queue ≡ q = at.1 ∙ ap (λ n. n % c.queues) pair ∙ on_queue in
    let bound : IsBound c.ports c.queues c.pairs (socket_at c.sockets s) = config.bound s (record { port = 0; queue = 0; rx = None; tx = None }) has in
    record {
      pair_known = known;
      pair_port = seat.0 ∙ on_port;
      pair_queue = seat.1 ∙ on_queue;
      known = has;
      on_port = socket_port;
      on_queue = socket_queue;
      rx = at.2;
      tx = at.3;
      driver = pair_on_only c.pairs (port_of c (Rx s)) (queue_of c (Rx s)) d bound.pair known (seat.0 ∙ on_port ∙ sym socket_port, seat.1 ∙ on_queue ∙ sym socket_queue);
      app = ap (λ n. (n / 2) * c.queues + queue_of c (Rx s)) socket_port ∙ ap (λ n. (p / 2) * c.queues + n) socket_queue;
    }

pub regular_seats : RegularSeats
regular_seats c port queue class config regular in_ports in_queues in_classes =
    let at = is_at c port queue class config regular in_ports in_queues in_classes in
    record {
      rx = (at.known, at.rx);
      tx = (at.known, at.tx);
      on_port = at.on_port;
      on_queue = at.on_queue;
      driver = at.driver;
      app = ap (caller_of c) at.app;
    }
