use Rattle.xsk_model.proofs.CallTheorems.{legal_closings}
use Rattle.xsk_model.proofs.laws.legal_closings.Goals as goal

pub returns : goal.returns
returns c = legal_closings
