use Rattle.std.proofs.Common.{map}
use Rattle.std.specs.Vec.{vec_items}
use Rattle.xsk_table.specs.Opening.{AllFirst}
use Rattle.xsk_table.proofs.shared.take_room.Given as goal

abbrev pub invariant-loop-who : goal.invariant-loop-who
invariant-loop-who l = AllFirst l.config l.first l.who (map vec_items l.ends.items)
