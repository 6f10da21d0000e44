use Rattle.std.proofs.Common.{ℕ, ◌≤◌, inl, [], ◌∷◌, refl, lit<, lit≤, Some}
use Rattle.std.specs.Prelude.{All, IsSome}
use Rattle.std.proofs.lemmas.List.Elements.{All-cons, All-nil}
use Rattle.xsk_umem.specs.Geometry.{Geometry}
use Rattle.xsk_model.specs.Config.{IsConfig, IsRingSize, IsBound, IsServed, IsMap}
use Rattle.bench_rings.specs.Moving.{moving_on}
use Rattle.bench_rings.proofs.opening.config_on.Goals as goal

both : {X : Type 0} (P : X → Type 0) (x y : X) → P x → P y → All P (x ∷ y ∷ [])
both P x y first second = All-cons P x (y ∷ []) first (All-cons P y [] second (All-nil P))

many : IsRingSize 2048
many = record { power = (11, refl); least = lit≤ tt; most = lit≤ tt }

has_ring : IsSome {T = ℕ} (Some 2048)
has_ring = refl

is_config : (g : Geometry) → IsConfig (moving_on g)
is_config g =
    let c = moving_on g in
    record {
      ports = inl refl;
      queues = inl refl;
      some = lit≤ tt;
      few = lit≤ tt;
      pairs_some = lit≤ tt;
      pairs_few = lit≤ tt;
      bound = both (IsBound 2 1 c.pairs) _ _
          (record { port = lit< tt; queue = lit< tt; pair = refl; ring = inl has_ring; rx = many; tx = tt })
          (record { port = lit< tt; queue = lit< tt; pair = refl; ring = inl has_ring; rx = many; tx = tt });
      served = both (IsServed c.sockets) _ _
          (record { socket = (0, _, lit< tt, refl, (refl, refl)); fill = many; comp = many })
          (record { socket = (1, _, lit< tt, refl, (refl, refl)); fill = many; comp = many });
      maps = refl;
      cells = both (IsMap 2) _ _
          (record { few = lit≤ tt; known = All-cons (λ v. v ≤ 2) 1 [] (lit≤ tt) (All-nil (λ v. v ≤ 2)) })
          (record { few = lit≤ tt; known = All-cons (λ v. v ≤ 2) 2 [] (lit≤ tt) (All-nil (λ v. v ≤ 2)) });
      closing = tt;
    }

pub of_parts-requires : goal.of_parts-requires
of_parts-requires c =
    rw (
      c.in_ok-sockets.ensures.items,
      c.socket_on.ensures,
      c.socket_on-2.ensures,
      c.in_ok-pairs.ensures.items,
      c.pair_on.ensures,
      c.pair_on-2.ensures,
      c.in_ok-cells.ensures.items,
      c.in_ok-vec.ensures.items,
      c.in_ok-vec-2.ensures.items,
    ) (is_config c.args.geometry)
