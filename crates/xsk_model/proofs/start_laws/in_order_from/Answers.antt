use Rattle.xsk_model.proofs.StartTheorems.{in_order_from}
use Rattle.xsk_model.proofs.start_laws.in_order_from.Goals as goal

pub returns : goal.returns
returns c = in_order_from
