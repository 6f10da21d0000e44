use Rattle.std.proofs.Common.{rules, ◌≡◌, ◌+◌, refl, Some, arith}
use Rattle.std.specs.Option.{option_map}
use Rattle.xsk_umem.specs.Frame.{Frame}
use Rattle.xsk_legal.proofs.Steps.{stands_here, not_here, times-take_at, times-take_less}
use Rattle.xsk_legal.proofs.standing.stands_before.Goals as goal

pub returns-then-eq : goal.returns-then-eq
returns-then-eq c =
    let same : option_map (λ (f : Frame). f.number) c.item.result.now.frame ≡ Some c.args.frame = search rules in (
      λ _. omega (
        arith,
        stands_here c.args.frame c.item.result.now.frame same,
        times-take_at c.args.frame c.args.items.now c.loop-k.k c.item.result.now c.item.ensures,
        times-take_less c.args.frame c.args.items.now (c.loop-k.k + 1) c.args.i (omega (arith, c.loop-k-test.true)),
      ),
      λ _. refl,
    )

pub loop-k-preserved : goal.loop-k-preserved
loop-k-preserved c =
    let other : option_map (λ (f : Frame). f.number) c.item.result.now.frame ≡ Some c.args.frame → ⊥ = search rules in
    omega (
      arith,
      c.loop-k.invariant,
      not_here c.args.frame c.item.result.now.frame other,
      times-take_at c.args.frame c.args.items.now c.loop-k.k c.item.result.now c.item.ensures,
    )
