use Rattle.xsk_model.proofs.Closings.{bounced_in_order}
use Rattle.xsk_model.proofs.laws.bounced_in_order.Goals as goal

pub returns : goal.returns
returns c = bounced_in_order
