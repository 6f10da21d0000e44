use Rattle.xsk_laws.proofs.Theorems.{all_is_expected}
use Rattle.xsk_laws.proofs.laws.all_is_expected.Goals as goal

pub returns : goal.returns
returns c = all_is_expected
