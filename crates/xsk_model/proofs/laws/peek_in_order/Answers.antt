use Rattle.xsk_model.proofs.Theorems.{peek_in_order}
use Rattle.xsk_model.proofs.laws.peek_in_order.Goals as goal

pub returns : goal.returns
returns c = peek_in_order
