use Rattle.xsk_model.proofs.Closings.{closed_from}
use Rattle.xsk_model.proofs.start_laws.closed_cells_from.Goals as goal

pub returns : goal.returns
returns c = closed_from
