use Rattle.xsk_model.proofs.Closings.{nothing_reserved}
use Rattle.xsk_model.proofs.laws.nothing_reserved.Goals as goal

pub returns : goal.returns
returns c = nothing_reserved
