use Rattle.xsk_laws.proofs.Theorems.{completed_are_forwarded}
use Rattle.xsk_laws.proofs.laws.completed_are_forwarded.Goals as goal

pub returns : goal.returns
returns c = completed_are_forwarded
