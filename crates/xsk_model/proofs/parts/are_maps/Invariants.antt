use Rattle.std.proofs.Common.{ℕ, ◌<◌, List, map, slice_index_or}
use Rattle.std.specs.Vec.{vec_items}
use Rattle.xsk_model.specs.Config.{IsMap}
use Rattle.xsk_model.proofs.parts.are_maps.Given as goal

abbrev pub invariant-loop-k : goal.invariant-loop-k
invariant-loop-k l = (i : ℕ) (none : List ℕ) → i < l.k → IsMap l.sockets (slice_index_or (map vec_items l.cells) i none)
