use Rattle.xsk_laws.proofs.Theorems.{completed_are_expected}
use Rattle.xsk_laws.proofs.laws.completed_are_expected.Goals as goal

pub returns : goal.returns
returns c = completed_are_expected
