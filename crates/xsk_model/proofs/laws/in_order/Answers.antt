use Rattle.xsk_model.proofs.Theorems.{in_order}
use Rattle.xsk_model.proofs.laws.in_order.Goals as goal

pub returns : goal.returns
returns c = in_order
