use Rattle.xsk_model.proofs.Theorems.{parts_by_own}
use Rattle.xsk_model.proofs.laws.parts_by_own.Goals as goal

pub returns : goal.returns
returns c = parts_by_own
