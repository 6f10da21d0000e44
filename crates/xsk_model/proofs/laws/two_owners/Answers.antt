use Rattle.xsk_model.proofs.Theorems.{owners}
use Rattle.xsk_model.proofs.laws.two_owners.Goals as goal

pub returns : goal.returns
returns c = owners
