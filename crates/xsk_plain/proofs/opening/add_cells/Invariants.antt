use Rattle.std.proofs.Common.{◌≡◌, ◌++◌, take}
use Rattle.xsk_model.specs.Config.{map_of}
use Rattle.xsk_plain.proofs.opening.add_cells.Given as goal

abbrev pub invariant-loop-index : goal.invariant-loop-index
invariant-loop-index l = l.marks.items ≡ l.initial.marks.items ++ take l.index (map_of l.config l.port)
