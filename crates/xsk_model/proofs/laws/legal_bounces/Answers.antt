use Rattle.xsk_model.proofs.CallTheorems.{legal_bounces}
use Rattle.xsk_model.proofs.laws.legal_bounces.Goals as goal

pub returns : goal.returns
returns c = legal_bounces
