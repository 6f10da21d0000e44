use Rattle.xsk_model.proofs.Closings.{cells_fall}
use Rattle.xsk_model.proofs.laws.cells_fall.Goals as goal

pub returns : goal.returns
returns c = cells_fall
