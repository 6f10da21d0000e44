use Rattle.xsk_model.proofs.CallTheorems.{legal_acks}
use Rattle.xsk_model.proofs.laws.legal_acks.Goals as goal

pub returns : goal.returns
returns c = legal_acks
