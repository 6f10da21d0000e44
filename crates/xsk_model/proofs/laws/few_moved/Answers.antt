use Rattle.xsk_model.proofs.CallTheorems.{few_moved}
use Rattle.xsk_model.proofs.laws.few_moved.Goals as goal

pub returns : goal.returns
returns c = few_moved
