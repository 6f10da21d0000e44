use Rattle.xsk_model.proofs.CallTheorems.{legal_cells}
use Rattle.xsk_model.proofs.laws.legal_cells.Goals as goal

pub returns : goal.returns
returns c = legal_cells
