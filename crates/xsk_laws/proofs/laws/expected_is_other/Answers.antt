use Rattle.xsk_laws.proofs.OneQueue.{expected_is_other}
use Rattle.xsk_laws.proofs.laws.expected_is_other.Goals as goal

pub returns : goal.returns
returns c = expected_is_other
