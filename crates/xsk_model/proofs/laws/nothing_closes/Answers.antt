use Rattle.xsk_model.proofs.Closings.{nothing_closes}
use Rattle.xsk_model.proofs.laws.nothing_closes.Goals as goal

pub returns : goal.returns
returns c = nothing_closes
