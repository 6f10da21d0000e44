use Rattle.std.proofs.Common.{◌≡◌, take}
use Rattle.xsk_turns.specs.Statistics.{capped}
use Rattle.xsk_turns.specs.Stranded.{items_in}
use Rattle.xsk_driver.proofs.driver.count_items.Given as goal

abbrev pub invariant-loop-group : goal.invariant-loop-group
invariant-loop-group l = l.count ≡ capped (items_in (take l.group-index l.groups))
