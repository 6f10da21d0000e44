use Rattle.xsk_model.proofs.Closings.{closed_cells}
use Rattle.xsk_model.proofs.laws.closed_cells.Goals as goal

pub returns : goal.returns
returns c = closed_cells
