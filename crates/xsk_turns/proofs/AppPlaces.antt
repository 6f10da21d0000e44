-- Which rings and marks an application has: those of its lanes and sides.
use Rattle.std.proofs.Common.{◌≡◌, ℕ, suc, ◌+◌, ◌-◌, ◌*◌, ◌/◌, ◌%◌, ◌<◌, ◌≤◌, ◌⊎◌, ⊎_elim, None, length, sym, ap, ◌∙◌, subst, arith, mul-le-mul_right}
use Rattle.std.proofs.lemmas.Nat.{div-mul-add, mod-mul-add, div_below, div-add-mod'}
use Rattle.xsk_turns.proofs.Object.{Config, HasRing, pool_of, batch_of, classes_of, callers_of, caller_of, application_on, producer, consumer, apps_of, IsBound, socket_at, port_of, queue_of}
use Rattle.xsk_model.specs.Rings.{driver_of}
use Rattle.xsk_model.proofs.Roles.{pair_on_only}
use Rattle.xsk_model.proofs.Seats.{below as in_row}
use Rattle.xsk_model.specs.declared.call.Ring.TheVariants.{Comp, Rx, Tx}
use Rattle.xsk_turns.specs.AppTurns.{pair_of, side_socket, rx_of, tx_of, lanes_of}
use Rattle.xsk_turns.specs.AppOwned.{IsApp}
use Rattle.xsk_turns.proofs.Places.{queues_some, batch_some, batch_few}

pub record AppSeats (c : Config) (a : ℕ) : Type 0 where
  pub known : a < apps_of c
  pub caller : caller_of c a < callers_of c
  pub rx : (lane : ℕ) → lane < lanes_of c → HasRing c (Rx (rx_of c a lane)) × (caller_of c a ≡ consumer c (Rx (rx_of c a lane)))
  pub tx : (lane : ℕ) → lane < lanes_of c → HasRing c (Tx (tx_of c a lane)) × (caller_of c a ≡ producer c (Tx (tx_of c a lane)))
  pub comp : (side : ℕ) → side < 2 → (pair_of c a side < length c.pairs) × (caller_of c a ≡ consumer c (Comp (pair_of c a side)))
  pub home : (number : ℕ) → number < c.geometry.frames → number / pool_of c < length c.pairs
  pub batch_some : 1 ≤ batch_of c
  pub batch_few : batch_of c ≤ 32

-- ---- numbers

-- the side of a lane
pub side_below : (classes lane : ℕ) → (classes ≡ 1) ⊎ (classes ≡ 2) ⊎ (classes ≡ 4) → lane < 2 * classes → lane / classes < 2
side_below classes lane few h =
    let at_one : (classes ≡ 1) → lane / classes < 2 = λ e. subst (λ s. lane < 2 * s → lane / s < 2) (sym e) (λ k. omega (arith, k)) h in
    let at_two : (classes ≡ 2) → lane / classes < 2 = λ e. subst (λ s. lane < 2 * s → lane / s < 2) (sym e) (λ k. omega (arith, k)) h in
    let at_four : (classes ≡ 4) → lane / classes < 2 = λ e. subst (λ s. lane < 2 * s → lane / s < 2) (sym e) (λ k. omega (arith, k)) h in
    ⊎_elim at_one (λ more. ⊎_elim at_two at_four more) few

side_port : (x side ports : ℕ) → (ports ≡ 2) ⊎ (ports ≡ 4) → x < ports / 2 → side < 2 → suc (2 * x + side) ≤ ports
side_port x side ports even h k = omega (arith, even)

-- ---- the pair of a side

module _ (c : Config) (a : ℕ) (one : IsApp c a) where
  some : 1 ≤ c.queues
  some = queues_some c.queues one.config.queues

  rest : a % c.queues < c.queues
  rest = let h = some in omega arith

  pub pair_below : (side : ℕ) → side < 2 → pair_of c a side < length c.pairs
  pair_below side h =
      let x = a / c.queues in
      let low : x < c.ports / 2 = div_below a c.queues (c.ports / 2) some one.known in
      let ports : suc (2 * x + side) ≤ c.ports = side_port x side c.ports one.config.ports low h in
      let most : suc (2 * x + side) * c.queues ≤ c.ports * c.queues = mul-le-mul_right c.queues ports in
      in_row (2 * x + side) c.queues (a % c.queues) (length c.pairs) rest (omega (arith, most, one.regular.pairs))

  -- the pairs of the two sides are two
  pub pairs_apart : pair_of c a 0 ≡ pair_of c a 1 → ⊥
  pairs_apart e = two (2 * (a / c.queues)) c.queues (a % c.queues) some e
    where
      two : (x q r : ℕ) → 1 ≤ q → (x + 0) * q + r ≡ (x + 1) * q + r → ⊥
      two x q r h e = grind arith

  pair_port : (side : ℕ) → pair_of c a side / c.queues ≡ 2 * (a / c.queues) + side
  pair_port side = div-mul-add (2 * (a / c.queues) + side) c.queues (a % c.queues) rest

  pair_queue : (side : ℕ) → pair_of c a side % c.queues ≡ a % c.queues
  pair_queue side = mod-mul-add (2 * (a / c.queues) + side) c.queues (a % c.queues) rest

  half : (x side port : ℕ) → port ≡ 2 * x + side → side < 2 → port / 2 ≡ x
  half x side port e h = omega arith

  -- the application of a port and queue that are the pair's is this one
  pub own_app : (side port queue : ℕ) → side < 2 → port ≡ pair_of c a side / c.queues → queue ≡ pair_of c a side % c.queues
      → application_on c port queue ≡ a
  own_app side port queue h e f =
      let x = a / c.queues in
      let p : port / 2 ≡ x = half x side port (e ∙ pair_port side) h in
      ap (λ (n : ℕ). n * c.queues + queue) p ∙ ap (λ (n : ℕ). x * c.queues + n) (f ∙ pair_queue side) ∙ div-add-mod' a c.queues

  pub comp_seat : (side : ℕ) → side < 2 → (pair_of c a side < length c.pairs) × (caller_of c a ≡ consumer c (Comp (pair_of c a side)))
  comp_seat side h =
      let below = pair_below side h in
      let at = one.regular.seats (pair_of c a side) below in
      (below, ap (caller_of c) (sym (own_app side _ _ h at.0 at.1)))

  -- ---- the socket of a side's class

  pub classes_some : 1 ≤ classes_of c
  classes_some = queues_some (classes_of c) one.regular.classes

  pub socket_below : (side class : ℕ) → side < 2 → class < classes_of c → side_socket c a side class < length c.sockets
  socket_below side class h k =
      let below = pair_below side h in
      let most : suc (pair_of c a side) * classes_of c ≤ length c.pairs * classes_of c = mul-le-mul_right (classes_of c) below in
      in_row (pair_of c a side) (classes_of c) class (length c.sockets) k (omega (arith, most, one.regular.sockets))

  pub socket_pair : (side class : ℕ) → class < classes_of c → side_socket c a side class / classes_of c ≡ pair_of c a side
  socket_pair side class k = div-mul-add (pair_of c a side) (classes_of c) class k

  pub rx_seat : (side class : ℕ) → side < 2 → class < classes_of c
      → HasRing c (Rx (side_socket c a side class)) × (caller_of c a ≡ consumer c (Rx (side_socket c a side class)))
  rx_seat side class h k =
      let below = socket_below side class h k in
      let at = one.regular.places (side_socket c a side class) below in
      let e = socket_pair side class k in
      ((below, at.2), ap (caller_of c) (sym (own_app side _ _ h (at.0 ∙ ap (λ (n : ℕ). n / c.queues) e) (at.1 ∙ ap (λ (n : ℕ). n % c.queues) e))))

  tx_seat : (side class : ℕ) → side < 2 → class < classes_of c
      → HasRing c (Tx (side_socket c a side class)) × (caller_of c a ≡ producer c (Tx (side_socket c a side class)))
  tx_seat side class h k =
      let below = socket_below side class h k in
      let at = one.regular.places (side_socket c a side class) below in
      let e = socket_pair side class k in
      ((below, at.3), ap (caller_of c) (sym (own_app side _ _ h (at.0 ∙ ap (λ (n : ℕ). n / c.queues) e) (at.1 ∙ ap (λ (n : ℕ). n % c.queues) e))))

  -- its driver is that of the side's pair
  pub socket_driver : (side class : ℕ) → side < 2 → class < classes_of c → driver_of c (Tx (side_socket c a side class)) ≡ pair_of c a side
  socket_driver side class h k =
      let s = side_socket c a side class in
      let within = socket_below side class h k in
      let below = pair_below side h in
      let bound : IsBound c.ports c.queues c.pairs (socket_at c.sockets s) = one.config.bound s (record { port = 0; queue = 0; rx = None; tx = None }) within in
      let seat = one.regular.seats (pair_of c a side) below in
      let at = one.regular.places s within in
      let e = socket_pair side class k in
      pair_on_only c.pairs (port_of c (Tx s)) (queue_of c (Tx s)) (pair_of c a side) bound.pair below
      (seat.0 ∙ ap (λ (n : ℕ). n / c.queues) (sym e) ∙ sym at.0, seat.1 ∙ ap (λ (n : ℕ). n % c.queues) (sym e) ∙ sym at.1)

  pub class_below : (lane : ℕ) → lane % classes_of c < classes_of c
  class_below lane = let h = classes_some in omega arith

  -- ---- the homes

  home_seat : (number : ℕ) → number < c.geometry.frames → number / pool_of c < length c.pairs
  home_seat number h =
      let whole = div-add-mod' c.geometry.frames (length c.pairs) in
      let e : length c.pairs * pool_of c ≡ c.geometry.frames = omega (arith, whole, one.regular.lawful.divides) in
      div_below number (pool_of c) (length c.pairs) one.regular.lawful.some (omega (arith, e))

  pub app_seats : AppSeats c a
  app_seats = record {
    known = one.known;
    caller = (let known = one.known in omega (arith, known));
    rx = λ lane h. rx_seat (lane / classes_of c) (lane % classes_of c) (side_below (classes_of c) lane one.regular.classes h) (class_below lane);
    tx = λ lane h. tx_seat (1 - lane / classes_of c) (lane % classes_of c) (omega arith) (class_below lane);
    comp = comp_seat;
    home = home_seat;
    batch_some = batch_some c one.config;
    batch_few = batch_few c;
  }

-- ---- the sockets of different lanes

module _ (c : Config) (a : ℕ) (one : IsApp c a) where
  same_socket : (side class other more : ℕ) → class < classes_of c → more < classes_of c → side_socket c a side class ≡ side_socket c a other more
      → (side ≡ other) × (class ≡ more)
  same_socket side class other more h k e =
      let pair : pair_of c a side ≡ pair_of c a other =
      sym (socket_pair c a one side class h) ∙ ap (λ (n : ℕ). n / classes_of c) e ∙ socket_pair c a one other more k in
      let port : 2 * (a / c.queues) + side ≡ 2 * (a / c.queues) + other =
      sym (pair_port c a one side) ∙ ap (λ (n : ℕ). n / c.queues) pair ∙ pair_port c a one other in
      let rest : class ≡ more =
      sym (mod-mul-add (pair_of c a side) (classes_of c) class h) ∙ ap (λ (n : ℕ). n % classes_of c) e ∙ mod-mul-add (pair_of c a other) (classes_of c) more k in
      (omega arith, rest)

  same_lane : (i j : ℕ) → i / classes_of c ≡ j / classes_of c → i % classes_of c ≡ j % classes_of c → i ≡ j
  same_lane i j e f =
      sym (div-add-mod' i (classes_of c)) ∙ ap (λ (n : ℕ). n * classes_of c + i % classes_of c) e
      ∙ ap (λ (n : ℕ). j / classes_of c * classes_of c + n) f ∙ div-add-mod' j (classes_of c)

  pub rx_lane : (i j : ℕ) → rx_of c a i ≡ rx_of c a j → i ≡ j
  rx_lane i j e =
      let both = same_socket (i / classes_of c) (i % classes_of c) (j / classes_of c) (j % classes_of c) (class_below c a one i) (class_below c a one j) e in
      same_lane i j both.0 both.1

  pub tx_lane : (i j : ℕ) → i < lanes_of c → j < lanes_of c → tx_of c a i ≡ tx_of c a j → i ≡ j
  tx_lane i j h k e =
      let both = same_socket (1 - i / classes_of c) (i % classes_of c) (1 - j / classes_of c) (j % classes_of c) (class_below c a one i) (class_below c a one j) e in
      same_lane i j (omega (arith, both.0, side_below (classes_of c) i one.regular.classes h, side_below (classes_of c) j one.regular.classes k)) both.1
