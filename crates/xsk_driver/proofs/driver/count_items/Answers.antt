use Rattle.std.proofs.Common.{rules}
use Rattle.xsk_driver.proofs.Stranding.{items_more}
use Rattle.xsk_driver.proofs.driver.count_items.Goals as goal

pub loop-group-preserved : goal.loop-group-preserved
loop-group-preserved c =
    items_more c.args.groups.now c.loop-group.group-index c.from.result c.loop-group.count c.saturating_add-count.result c.group-item.result c.loop-group-test.true
    (search rules) (search rules) c.loop-group.invariant c.saturating_add-count.ensures
