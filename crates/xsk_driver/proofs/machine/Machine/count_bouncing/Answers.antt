use Rattle.std.proofs.Common.{ℕ, List, length, arith, ap}
use Rattle.std.specs.List.{concat}
use Rattle.xsk_driver.proofs.Bouncing.{none_left}
use Rattle.xsk_driver.proofs.machine.Machine.count_bouncing.Goals as goal

pub returns-clause-packets : goal.returns-clause-packets
returns-clause-packets c =
    omega (arith, c.loop-place.invariant.1, ap (λ (ps : List (List ℕ)). length ps) (none_left c.args.self.now c.loop-place.place c.loop-place-test.false))

pub returns-clause-bytes : goal.returns-clause-bytes
returns-clause-bytes c =
    omega (arith, c.loop-place.invariant.2, ap (λ (ps : List (List ℕ)). length (concat ps)) (none_left c.args.self.now c.loop-place.place c.loop-place-test.false))
