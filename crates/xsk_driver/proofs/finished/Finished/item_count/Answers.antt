use Rattle.std.proofs.Common.{rules, sym}
use Rattle.xsk_driver.proofs.Stranding.{capped_items}
use Rattle.xsk_driver.proofs.finished.Finished.item_count.Goals as goal

pub returns : goal.returns
returns c = rw (sym c.self.view_is) (capped_items c.self.inside.lengths.items c.self.inside.items.items c.len.result c.self.invariant.0 (search rules) c.len.type_inv)
