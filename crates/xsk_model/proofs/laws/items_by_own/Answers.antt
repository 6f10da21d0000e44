use Rattle.xsk_model.proofs.Theorems.{items_by_own}
use Rattle.xsk_model.proofs.laws.items_by_own.Goals as goal

pub returns : goal.returns
returns c = items_by_own
