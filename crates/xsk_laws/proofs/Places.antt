-- Where the drivers, the sockets and the application of a port's queue stand in a regular configuration.
use Rattle.std.proofs.Common.{◌≡◌, ℕ, suc, ◌+◌, ◌-◌, ◌*◌, ◌/◌, ◌%◌, ◌<◌, ◌≤◌, ◌⊎◌, cond, sym, ap, subst, ◌∙◌, ⊎_elim, arith, mul-le-mul_right}
use Rattle.std.proofs.lemmas.Nat.{div-mul-add, mod-mul-add}
use Rattle.std.proofs.lemmas.Bool.{cases_eq, eq-eqb, ne_eqb}
use Rattle.xsk_model.specs.Config.{Config, IsConfig, classes_of}
use Rattle.xsk_model.specs.Marks.{apps_of}
use Rattle.xsk_model.specs.Steering.{paired_port, driver_on, socket_on}
use Rattle.xsk_model.proofs.Roles.{app_below as apps_below}
use Rattle.xsk_model.proofs.Seats.{below}
use Rattle.xsk_turns.specs.AppTurns.{pair_of, side_socket, rx_of, tx_of, lanes_of}

-- ---- numbers

some_of : (n : ℕ) → (n ≡ 1) ⊎ (n ≡ 2) ⊎ (n ≡ 4) → 1 ≤ n
some_of n h = omega (arith, h)

pub paired_even : (port : ℕ) → port % 2 ≡ 0 → paired_port port ≡ port + 1
paired_even port h = ap (λ b. cond b (port + 1) (port - 1)) (eq-eqb (port % 2) 0 h)

pub paired_odd : (port : ℕ) → (port % 2 ≡ 0 → ⊥) → paired_port port ≡ port - 1
paired_odd port h = ap (λ b. cond b (port + 1) (port - 1)) (ne_eqb (port % 2) 0 h)

pub paired_twice : (port : ℕ) → paired_port (paired_port port) ≡ port
paired_twice port = ⊎_elim
    (λ (e : port % 2 ≡ 0).
    let back : port + 1 - 1 ≡ port = omega arith in
    ap paired_port (paired_even port e) ∙ paired_odd (port + 1) (λ f. omega (arith, e, f)) ∙ back)
    (λ (e : port % 2 ≡ 0 → ⊥).
    let back : port - 1 + 1 ≡ port = omega (arith, e) in
    ap paired_port (paired_odd port e) ∙ paired_even (port - 1) (omega (arith, e)) ∙ back)
    (cases_eq (port % 2) 0)

-- the two ports of a pair
pub record ArePaired (ports port other : ℕ) : Type 0 where
  pub in_ports : other < ports
  pub half : other / 2 ≡ port / 2
  pub side : other % 2 < 2
  pub here : port ≡ 2 * (port / 2) + (1 - other % 2)
  pub there : other ≡ 2 * (port / 2) + other % 2

pub are_paired : (ports port : ℕ) → (ports ≡ 2) ⊎ (ports ≡ 4) → port < ports → ArePaired ports port (paired_port port)
are_paired ports port even h = ⊎_elim
    (λ (e : port % 2 ≡ 0). subst (ArePaired ports port) (sym (paired_even port e))
    (record { in_ports = omega (arith, even); half = omega arith; side = omega arith; here = omega arith; there = omega arith }))
    (λ (e : port % 2 ≡ 0 → ⊥). subst (ArePaired ports port) (sym (paired_odd port e))
    (record { in_ports = omega arith; half = omega (arith, e); side = omega arith; here = omega (arith, e); there = omega (arith, e) }))
    (cases_eq (port % 2) 0)

-- ---- a driver and a socket

abbrev pub app_on : Config → ℕ → ℕ → ℕ
app_on c port queue = (port / 2) * c.queues + queue

-- ---- the application and its lane

pub app_below : (c : Config) (p q : ℕ) → IsConfig c → p < c.ports → q < c.queues → app_on c p q < apps_of c
app_below c p q config port queue = apps_below c.ports c.queues p q config.ports port queue

-- the pair of a side is that of the port of this side
pub side_pair : (c : Config) (p q side o : ℕ) → q < c.queues → o ≡ 2 * (p / 2) + side → pair_of c (app_on c p q) side ≡ driver_on c o q
side_pair c p q side o queue e =
    let half : app_on c p q / c.queues ≡ p / 2 = div-mul-add (p / 2) c.queues q queue in
    let rest : app_on c p q % c.queues ≡ q = mod-mul-add (p / 2) c.queues q queue in
    ap (λ n. (2 * n + side) * c.queues + app_on c p q % c.queues) half
    ∙ ap (λ n. (2 * (p / 2) + side) * c.queues + n) rest
    ∙ ap (λ n. n * c.queues + q) (sym e)

-- the lane from the paired port to a port
abbrev pub lane_on : Config → ℕ → ℕ → ℕ
lane_on c o k = (o % 2) * classes_of c + k

-- the lane of a side and a class
pub side_lane : (side n k : ℕ) → side < 2 → k < n → side * n + k < 2 * n
side_lane side n k h e =
    let most : suc side * n ≤ 2 * n = mul-le-mul_right n h in
    below side n k (2 * n) e most

pub lane_below : (c : Config) (o k : ℕ) → k < classes_of c → lane_on c o k < lanes_of c
lane_below c o k class = side_lane (o % 2) (classes_of c) k (omega arith) class

pub lane_rx : (c : Config) (p q k o : ℕ) → q < c.queues → k < classes_of c → o ≡ 2 * (p / 2) + o % 2 → rx_of c (app_on c p q) (lane_on c o k) ≡ socket_on c o q k
lane_rx c p q k o queue class e =
    let side : lane_on c o k / classes_of c ≡ o % 2 = div-mul-add (o % 2) (classes_of c) k class in
    let rest : lane_on c o k % classes_of c ≡ k = mod-mul-add (o % 2) (classes_of c) k class in
    ap (λ n. side_socket c (app_on c p q) n (lane_on c o k % classes_of c)) side
    ∙ ap (λ n. side_socket c (app_on c p q) (o % 2) n) rest
    ∙ ap (λ n. n * classes_of c + k) (side_pair c p q (o % 2) o queue e)

pub lane_tx : (c : Config) (p q k o : ℕ) → q < c.queues → k < classes_of c → p ≡ 2 * (p / 2) + (1 - o % 2) → tx_of c (app_on c p q) (lane_on c o k) ≡ socket_on c p q k
lane_tx c p q k o queue class e =
    let side : lane_on c o k / classes_of c ≡ o % 2 = div-mul-add (o % 2) (classes_of c) k class in
    let rest : lane_on c o k % classes_of c ≡ k = mod-mul-add (o % 2) (classes_of c) k class in
    ap (λ n. side_socket c (app_on c p q) (1 - n) (lane_on c o k % classes_of c)) side
    ∙ ap (λ n. side_socket c (app_on c p q) (1 - o % 2) n) rest
    ∙ ap (λ n. n * classes_of c + k) (side_pair c p q (1 - o % 2) p queue e)
