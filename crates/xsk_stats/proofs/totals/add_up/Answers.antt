use Rattle.std.proofs.Common.{rules, take}
use Rattle.xsk_stats.proofs.Sums.{total_more}
use Rattle.xsk_stats.proofs.totals.add_up.Goals as goal

pub loop-driver-preserved : goal.loop-driver-preserved
loop-driver-preserved c =
    let drivers = c.args.drivers.now in
    total_more c.args.classes drivers c.loop-driver.driver _ _ (search rules) (search rules)
    (c.add_driver.ensures (take c.loop-driver.driver drivers) c.loop-driver.invariant)
