use Rattle.xsk_laws.proofs.Theorems.{all_is_forwarded}
use Rattle.xsk_laws.proofs.laws.all_is_forwarded.Goals as goal

pub returns : goal.returns
returns c = all_is_forwarded
