use Rattle.xsk_laws.proofs.Theorems.{bounced_as_said}
use Rattle.xsk_laws.proofs.laws.bounced_as_said.Goals as goal

pub returns : goal.returns
returns c = bounced_as_said
