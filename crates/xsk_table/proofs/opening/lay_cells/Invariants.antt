use Rattle.xsk_table.specs.Opening.{Spares, IsOfCell, AreCells}
use Rattle.xsk_table.proofs.opening.lay_cells.Given as goal

abbrev pub invariant-loop-index : goal.invariant-loop-index
invariant-loop-index l = Spares l.config (IsOfCell l.port) l.fn.row l.row × AreCells l.config l.port l.index l.row
