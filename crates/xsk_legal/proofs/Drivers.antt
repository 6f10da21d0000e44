-- The driver of a ring is the caller with the number of its queue's one pair.
use Rattle.std.proofs.Common.{◌≡◌, ℕ, ◌<◌, ◌↔◌, List, length, None, get_or, refl, sym, subst, ap, ◌∙◌, arith}
use Rattle.xsk_model.specs.Config.{Config, IsConfig, IsServed, IsBound, HasRing, pairs_at, pair_at}
use Rattle.xsk_model.specs.Rings.{pair_on, port_of, queue_of, driver_of}
use Rattle.xsk_model.specs.declared.config.PairInfo.{PairInfo}
use Rattle.xsk_model.specs.declared.config.SocketInfo.{SocketInfo}
use Rattle.xsk_model.specs.declared.call.Ring.{Ring}
use Rattle.xsk_model.specs.declared.call.Ring.TheVariants.{Fill, Comp, Rx, Tx}
use Rattle.xsk_model.proofs.Roles.{pair_on_only, pair_on_found}
use Rattle.xsk_legal.specs.Roles.{IsPairAt}

only_pair : (pairs : List PairInfo) (port queue who : ℕ) → pairs_at pairs port queue ≡ 1
    → IsPairAt pairs who port queue ↔ (who ≡ pair_on pairs port queue)
only_pair pairs port queue who one =
    let found = pair_on_found pairs port queue (omega (arith, one)) in (
      λ h. sym (pair_on_only pairs port queue who one h.0 (h.1, h.2)),
      λ e. subst (λ d. IsPairAt pairs d port queue) (sym e) (found.0, found.1.0, found.1.1),
    )

-- a socket is bound to each pair's queue, so this is the queue's one pair
one_pair : (c : Config) (d : ℕ) → IsConfig c → d < length c.pairs → pairs_at c.pairs (pair_at c.pairs d).port (pair_at c.pairs d).queue ≡ 1
one_pair c d config h =
    let served : IsServed c.sockets (pair_at c.pairs d) = config.served d (record { port = 0; queue = 0; fill = 0; comp = 0 }) h in
    let any = served.socket in
    let bound : IsBound c.ports c.queues c.pairs (get_or c.sockets any.0 any.1) = config.bound any.0 any.1 any.2 in
    let port = ap (λ (s : SocketInfo). s.port) any.3 ∙ any.4.0 in
    let queue = ap (λ (s : SocketInfo). s.queue) any.3 ∙ any.4.1 in
    ap (λ p. pairs_at c.pairs p (pair_at c.pairs d).queue) (sym port) ∙ ap (λ q. pairs_at c.pairs (get_or c.sockets any.0 any.1).port q) (sym queue) ∙ bound.pair

pair_itself : (c : Config) (d : ℕ) → IsConfig c → d < length c.pairs → pair_on c.pairs (pair_at c.pairs d).port (pair_at c.pairs d).queue ≡ d
pair_itself c d config h =
    pair_on_only c.pairs (pair_at c.pairs d).port (pair_at c.pairs d).queue d (one_pair c d config h) h (refl, refl)

pub driver_at : (c : Config) (r : Ring) (who : ℕ) → IsConfig c → HasRing c r → IsPairAt c.pairs who (port_of c r) (queue_of c r) ↔ (who ≡ driver_of c r)
driver_at c (Fill d) who config h =
    subst (λ k. IsPairAt c.pairs who (pair_at c.pairs d).port (pair_at c.pairs d).queue ↔ (who ≡ k)) (pair_itself c d config h)
    (only_pair c.pairs (pair_at c.pairs d).port (pair_at c.pairs d).queue who (one_pair c d config h))
driver_at c (Comp d) who config h =
    subst (λ k. IsPairAt c.pairs who (pair_at c.pairs d).port (pair_at c.pairs d).queue ↔ (who ≡ k)) (pair_itself c d config h)
    (only_pair c.pairs (pair_at c.pairs d).port (pair_at c.pairs d).queue who (one_pair c d config h))
driver_at c (Rx s) who config h =
    only_pair c.pairs (port_of c (Rx s)) (queue_of c (Rx s)) who
    (config.bound s (record { port = 0; queue = 0; rx = None; tx = None }) h.0).pair
driver_at c (Tx s) who config h =
    only_pair c.pairs (port_of c (Tx s)) (queue_of c (Tx s)) who
    (config.bound s (record { port = 0; queue = 0; rx = None; tx = None }) h.0).pair
