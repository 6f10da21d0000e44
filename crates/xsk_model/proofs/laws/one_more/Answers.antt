use Rattle.xsk_model.proofs.CallTheorems.{one_more}
use Rattle.xsk_model.proofs.laws.one_more.Goals as goal

pub returns : goal.returns
returns c = one_more
