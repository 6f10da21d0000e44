use Rattle.xsk_laws.proofs.Theorems.{all_are_both}
use Rattle.xsk_laws.proofs.laws.all_are_both.Goals as goal

pub returns : goal.returns
returns c = all_are_both
