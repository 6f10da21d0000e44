use Rattle.xsk_model.proofs.Theorems.{sent_in_order}
use Rattle.xsk_model.proofs.laws.sent_in_order.Goals as goal

pub returns : goal.returns
returns c = sent_in_order
