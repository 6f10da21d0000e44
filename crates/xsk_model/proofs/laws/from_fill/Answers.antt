use Rattle.xsk_model.proofs.CallTheorems.{from_fill}
use Rattle.xsk_model.proofs.laws.from_fill.Goals as goal

pub returns : goal.returns
returns c = from_fill
