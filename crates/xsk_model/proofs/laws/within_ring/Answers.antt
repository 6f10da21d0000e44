use Rattle.xsk_model.proofs.Theorems.{legal_within_ring}
use Rattle.xsk_model.proofs.laws.within_ring.Goals as goal

pub returns : goal.returns
returns c = legal_within_ring
