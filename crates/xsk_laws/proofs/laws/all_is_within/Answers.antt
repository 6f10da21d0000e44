use Rattle.xsk_laws.proofs.Theorems.{all_is_within}
use Rattle.xsk_laws.proofs.laws.all_is_within.Goals as goal

pub returns : goal.returns
returns c = all_is_within
