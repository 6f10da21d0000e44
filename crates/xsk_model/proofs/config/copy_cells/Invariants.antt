use Rattle.std.proofs.Common.{◌≡◌, take, map}
use Rattle.std.specs.Vec.{vec_items}
use Rattle.xsk_model.proofs.config.copy_cells.Given as goal

abbrev pub invariant-loop-map : goal.invariant-loop-map
invariant-loop-map l = map vec_items l.copy.items ≡ map vec_items (take l.map-index l.cells)
