use Rattle.xsk_model.proofs.Theorems.{one_holder}
use Rattle.xsk_model.proofs.laws.one_holder.Goals as goal

pub returns : goal.returns
returns c = one_holder
