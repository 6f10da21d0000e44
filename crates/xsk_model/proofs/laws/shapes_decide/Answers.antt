use Rattle.xsk_model.proofs.CallTheorems.{shapes_decide}
use Rattle.xsk_model.proofs.laws.shapes_decide.Goals as goal

pub returns : goal.returns
returns c = shapes_decide
