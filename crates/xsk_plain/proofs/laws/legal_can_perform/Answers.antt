use Rattle.xsk_plain.proofs.Legality.{legal_can_perform}
use Rattle.xsk_plain.proofs.laws.legal_can_perform.Goals as goal

pub returns : goal.returns
returns c = legal_can_perform
