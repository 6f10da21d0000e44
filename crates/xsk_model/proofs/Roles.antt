-- Who produces and who consumes a ring: two callers, below the number of callers.
use Rattle.std.proofs.Common.{◌≡◌, ◌≢◌, ℕ, zero, suc, ◌+◌, ◌*◌, ◌/◌, ◌<◌, ◌≤◌, ◌⊎◌, Bool, true, false, cond, eqb, ◌&&◌, List, [], ◌∷◌, length, get_or, None, sym, ap, subst, ◌∙◌, ⊎_elim, arith, eqb-true, eq-eqb, mul-le-mul_right}
use Rattle.std.proofs.lemmas.Bool.{cases_Bool, and_parts, and_from}
use Rattle.std.proofs.lemmas.List.Sums.{sum_by-cons}
use Rattle.xsk_model.specs.Config.{Config, IsConfig, IsBound, IsServed, HasRing, pairs_at, pair_at, socket_at, callers_of}
use Rattle.xsk_model.specs.Rings.{pair_on, port_of, queue_of, driver_of, app_of, producer, consumer}
use Rattle.xsk_model.specs.declared.config.PairInfo.{PairInfo}
use Rattle.xsk_model.specs.declared.config.SocketInfo.{SocketInfo}
use Rattle.xsk_model.specs.declared.call.Ring.{Ring}
use Rattle.xsk_model.specs.declared.call.Ring.TheVariants.{Fill, Comp, Rx, Tx}

-- ---- the pair of a queue

abbrev is_at : ℕ → ℕ → PairInfo → Bool
is_at port queue pair = eqb pair.port port && eqb pair.queue queue

abbrev pub IsAt : ℕ → ℕ → PairInfo → Type 0
IsAt port queue pair = (pair.port ≡ port) × (pair.queue ≡ queue)

is_at-true : (port queue : ℕ) (pair : PairInfo) → is_at port queue pair ≡ true → IsAt port queue pair
is_at-true port queue pair h =
    let both = and_parts (eqb pair.port port) (eqb pair.queue queue) h in
    (eqb-true pair.port port both.0, eqb-true pair.queue queue both.1)

is_at-from : (port queue : ℕ) (pair : PairInfo) → IsAt port queue pair → is_at port queue pair ≡ true
is_at-from port queue pair h = and_from (eqb pair.port port) (eqb pair.queue queue) (eq-eqb pair.port port h.0) (eq-eqb pair.queue queue h.1)

pairs_at-cons : (pair : PairInfo) (pairs : List PairInfo) (port queue : ℕ)
    → pairs_at (pair ∷ pairs) port queue ≡ cond (is_at port queue pair) 1 0 + pairs_at pairs port queue
pairs_at-cons pair pairs port queue = sum_by-cons (λ (p : PairInfo). cond (is_at port queue p) 1 0) pair pairs

counted : (b : Bool) (n m : ℕ) → n ≡ cond b 1 0 + m → b ≡ true → n ≡ suc m
counted b n m e h = omega (arith, e, ap {B = ℕ} (λ x. cond x 1 0) h)

uncounted : (b : Bool) (n m : ℕ) → n ≡ cond b 1 0 + m → b ≡ false → n ≡ m
uncounted b n m e h = omega (arith, e, ap {B = ℕ} (λ x. cond x 1 0) h)

pub pair_on_found : (pairs : List PairInfo) (port queue : ℕ) → 1 ≤ pairs_at pairs port queue
    → (pair_on pairs port queue < length pairs) × IsAt port queue (pair_at pairs (pair_on pairs port queue))
pair_on_found [] port queue h = absurd (omega arith)
pair_on_found (pair ∷ pairs) port queue h =
    let count = pairs_at-cons pair pairs port queue in
    ⊎_elim
    (λ (e : is_at port queue pair ≡ true).
    subst (λ k. (k < length (pair ∷ pairs)) × IsAt port queue (pair_at (pair ∷ pairs) k))
    (sym (ap (λ b. cond b 0 (suc (pair_on pairs port queue))) e)) (omega arith, is_at-true port queue pair e))
    (λ (e : is_at port queue pair ≡ false).
    let rest = pair_on_found pairs port queue
    (omega (arith, h, uncounted (is_at port queue pair) (pairs_at (pair ∷ pairs) port queue) (pairs_at pairs port queue) count e)) in
    subst (λ k. (k < length (pair ∷ pairs)) × IsAt port queue (pair_at (pair ∷ pairs) k))
    (sym (ap (λ b. cond b 0 (suc (pair_on pairs port queue))) e)) (omega (arith, rest.0), rest.1))
    (cases_Bool (is_at port queue pair))

pub pairs_at_some : (pairs : List PairInfo) (port queue d : ℕ) → d < length pairs → IsAt port queue (pair_at pairs d) → 1 ≤ pairs_at pairs port queue
pairs_at_some [] port queue d h at = absurd (omega arith)
pairs_at_some (pair ∷ pairs) port queue zero h at =
    omega (arith, counted (is_at port queue pair) (pairs_at (pair ∷ pairs) port queue) (pairs_at pairs port queue) (pairs_at-cons pair pairs port queue) (is_at-from port queue pair at))
pairs_at_some (pair ∷ pairs) port queue (suc d) h at =
    omega (arith, pairs_at-cons pair pairs port queue, pairs_at_some pairs port queue d (omega arith) at)

-- the pair that a queue has is the only one
pub pair_on_only : (pairs : List PairInfo) (port queue d : ℕ) → pairs_at pairs port queue ≡ 1 → d < length pairs → IsAt port queue (pair_at pairs d)
    → pair_on pairs port queue ≡ d
pair_on_only [] port queue d one h at = absurd (omega arith)
pair_on_only (pair ∷ pairs) port queue zero one h at =
    ap (λ b. cond b 0 (suc (pair_on pairs port queue))) (is_at-from port queue pair at)
pair_on_only (pair ∷ pairs) port queue (suc d) one h at =
    let count = pairs_at-cons pair pairs port queue in
    let later = pairs_at_some pairs port queue d (omega arith) at in
    ⊎_elim
    (λ (e : is_at port queue pair ≡ true).
    absurd (omega (arith, one, later, counted (is_at port queue pair) (pairs_at (pair ∷ pairs) port queue) (pairs_at pairs port queue) count e)))
    (λ (e : is_at port queue pair ≡ false).
    ap (λ b. cond b 0 (suc (pair_on pairs port queue))) e
    ∙ ap suc (pair_on_only pairs port queue d
    (sym (uncounted (is_at port queue pair) (pairs_at (pair ∷ pairs) port queue) (pairs_at pairs port queue) count e) ∙ one) (omega arith) at))
    (cases_Bool (is_at port queue pair))

-- ---- the callers

pub app_below : (ports queues port queue : ℕ) → (ports ≡ 2) ⊎ (ports ≡ 4) → port < ports → queue < queues
    → (port / 2) * queues + queue < (ports / 2) * queues
app_below ports queues port queue even h k =
    let half : suc (port / 2) ≤ ports / 2 = omega (arith, even, h) in
    let p : suc (port / 2) * queues ≤ (ports / 2) * queues = mul-le-mul_right queues half in
    omega (arith, p, k)

-- where a ring is: on a queue of the device
pub record IsPlaced (c : Config) (r : Ring) : Type 0 where
  pub port : port_of c r < c.ports
  pub queue : queue_of c r < c.queues
  pub driver : driver_of c r < length c.pairs

placed_pair : (c : Config) (d : ℕ) → IsConfig c → d < length c.pairs → ((pair_at c.pairs d).port < c.ports) × ((pair_at c.pairs d).queue < c.queues)
placed_pair c d config h =
    let served : IsServed c.sockets (pair_at c.pairs d) = config.served d (record { port = 0; queue = 0; fill = 0; comp = 0 }) h in
    let any = served.socket in
    let bound : IsBound c.ports c.queues c.pairs (get_or c.sockets any.0 any.1) = config.bound any.0 any.1 any.2 in
    let port = ap (λ (s : SocketInfo). s.port) any.3 in
    let queue = ap (λ (s : SocketInfo). s.queue) any.3 in
    (omega (arith, bound.port, port, any.4.0), omega (arith, bound.queue, queue, any.4.1))

placed_socket : (c : Config) (s : ℕ) → IsConfig c → s < length c.sockets → IsBound c.ports c.queues c.pairs (socket_at c.sockets s)
placed_socket c s config h = config.bound s (record { port = 0; queue = 0; rx = None; tx = None }) h

pub ring_placed : (c : Config) (r : Ring) → IsConfig c → HasRing c r → IsPlaced c r
ring_placed c (Fill d) config h = record { port = (placed_pair c d config h).0; queue = (placed_pair c d config h).1; driver = h }
ring_placed c (Comp d) config h = record { port = (placed_pair c d config h).0; queue = (placed_pair c d config h).1; driver = h }
ring_placed c (Rx s) config h =
    let bound = placed_socket c s config h.0 in
    record { port = bound.port; queue = bound.queue; driver = (pair_on_found c.pairs (port_of c (Rx s)) (queue_of c (Rx s)) (omega (arith, bound.pair))).0 }
ring_placed c (Tx s) config h =
    let bound = placed_socket c s config h.0 in
    record { port = bound.port; queue = bound.queue; driver = (pair_on_found c.pairs (port_of c (Tx s)) (queue_of c (Tx s)) (omega (arith, bound.pair))).0 }

-- the application of a ring that exists
pub app_of_below : (c : Config) (r : Ring) → IsConfig c → HasRing c r → app_of c r < callers_of c
app_of_below c r config h =
    let at = ring_placed c r config h in
    omega (arith, app_below c.ports c.queues (port_of c r) (queue_of c r) config.ports at.port at.queue)

abbrev Owners : Config → Ring → Type 0
Owners c r = (producer c r < callers_of c) × (consumer c r < callers_of c) × (producer c r ≢ consumer c r)

pub two_owners : (c : Config) (r : Ring) → IsConfig c → HasRing c r → Owners c r
two_owners c (Fill d) config h =
    let at = ring_placed c (Fill d) config h in
    (app_of_below c (Fill d) config h, omega (arith, at.driver), λ e. omega (arith, at.driver, e))
two_owners c (Comp d) config h =
    let at = ring_placed c (Comp d) config h in
    (omega (arith, at.driver), app_of_below c (Comp d) config h, λ e. omega (arith, at.driver, e))
two_owners c (Rx s) config h =
    let at = ring_placed c (Rx s) config h in
    (omega (arith, at.driver), app_of_below c (Rx s) config h, λ e. omega (arith, at.driver, e))
two_owners c (Tx s) config h =
    let at = ring_placed c (Tx s) config h in
    (app_of_below c (Tx s) config h, omega (arith, at.driver), λ e. omega (arith, at.driver, e))
