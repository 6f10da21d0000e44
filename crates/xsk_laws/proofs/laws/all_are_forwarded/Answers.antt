use Rattle.xsk_laws.proofs.Theorems.{all_are_forwarded}
use Rattle.xsk_laws.proofs.laws.all_are_forwarded.Goals as goal

pub returns : goal.returns
returns c = all_are_forwarded
