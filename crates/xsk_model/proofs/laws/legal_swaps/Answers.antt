use Rattle.xsk_model.proofs.CallTheorems.{legal_swaps}
use Rattle.xsk_model.proofs.laws.legal_swaps.Goals as goal

pub returns : goal.returns
returns c = legal_swaps
