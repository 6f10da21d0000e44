use Rattle.std.proofs.Common.{◌≡◌, ◌++◌, take, replicate, flat_map}
use Rattle.xsk_model.specs.Marks.{flags_of}
use Rattle.xsk_model.specs.Opening.{opening_cells}
use Rattle.xsk_plain.proofs.opening.open_marks.Given as goal

abbrev pub invariant-loop-port : goal.invariant-loop-port
invariant-loop-port l = l.marks.items ≡ replicate (flags_of l.config) 0 ++ flat_map opening_cells (take l.port l.config.cells)
