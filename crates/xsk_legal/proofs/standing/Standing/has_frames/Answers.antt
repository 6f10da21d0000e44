use Rattle.std.proofs.Common.{rules, ◌≡◌, ◌≤◌, ◌+◌, ℕ, Some, None, sym, subst, take, arith}
use Rattle.std.specs.Option.{option_map}
use Rattle.xsk_umem.specs.Frame.{Frame}
use Rattle.xsk_model.specs.Numbers.{times, numbers}
use Rattle.xsk_legal.specs.Pieces.{has}
use Rattle.xsk_legal.proofs.Steps.{stands_here, times-take_at, times-take_few, few_here, none_here, has_few}
use Rattle.xsk_legal.proofs.standing.Standing.has_frames.Goals.{then-not-has-via-then-not-has, then-not-has-via-else-not-has+then-stands_before, in-Some+else-not-has+else-stands_before, in_default}
use Rattle.xsk_legal.proofs.standing.Standing.has_frames.Goals as goal

pub returns-then-not-has : goal.returns-then-not-has
returns-then-not-has c =
    let m : ℕ = c.in-Some.frame in
    let same : option_map (λ (f : Frame). f.number) c.item.result.now.frame ≡ Some m = search rules in
    let here : 1 ≤ times m (numbers (take (c.loop-i.i + 1) c.args.items.now)) =
    omega (arith, stands_here m c.item.result.now.frame same, times-take_at m c.args.items.now c.loop-i.i c.item.result.now c.item.ensures) in (
      λ no. absurd (cc),
      λ h. elim c.then-not-has.branch [
        | then-not-has-via-then-not-has w ↦
            let missing : has c.args.self.now.sources m ≡ 1 → ⊥ = search rules in
            absurd (missing (omega (arith, here, h m, times-take_few m c.args.items.now (c.loop-i.i + 1), has_few c.args.self.now.sources m)))
        | then-not-has-via-else-not-has+then-stands_before w ↦
            let before : 1 ≤ times m (numbers (take c.loop-i.i c.args.items.now)) = search rules in
            absurd (omega (
              arith,
              before,
              stands_here m c.item.result.now.frame same,
              times-take_at m c.args.items.now c.loop-i.i c.item.result.now c.item.ensures,
              h m,
              times-take_few m c.args.items.now (c.loop-i.i + 1),
              has_few c.args.self.now.sources m,
            ))
      ],
    )

pub loop-i-preserved : goal.loop-i-preserved
loop-i-preserved c = elim c.match-number_of.branch [
  | in-Some+else-not-has+else-stands_before w ↦
      let m : ℕ = w.in-Some.frame in
      let same : option_map (λ (f : Frame). f.number) c.item.result.now.frame ≡ Some m = search rules in
      let hold : has c.args.self.now.sources m ≡ 1 = search rules in
      let none : times m (numbers (take c.loop-i.i c.args.items.now)) ≡ 0 = search rules in
      λ n. omega (
        arith,
        times-take_at n c.args.items.now c.loop-i.i c.item.result.now c.item.ensures,
        few_here n m c.item.result.now.frame (times n (numbers (take c.loop-i.i c.args.items.now))) (has c.args.self.now.sources n) same (c.loop-i.invariant n)
            (λ e. subst (λ k. (has c.args.self.now.sources k ≡ 1) × (times k (numbers (take c.loop-i.i c.args.items.now)) ≡ 0)) (sym e) (hold, none)),
      )
  | in_default w ↦
      let nothing : option_map (λ (f : Frame). f.number) c.item.result.now.frame ≡ None = search rules in
      λ n. omega (
        arith,
        times-take_at n c.args.items.now c.loop-i.i c.item.result.now c.item.ensures,
        none_here n c.item.result.now.frame nothing,
        c.loop-i.invariant n,
      )
]
