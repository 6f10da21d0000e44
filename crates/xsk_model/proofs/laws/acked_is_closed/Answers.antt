use Rattle.xsk_model.proofs.Closings.{acked_is_closed}
use Rattle.xsk_model.proofs.laws.acked_is_closed.Goals as goal

pub returns : goal.returns
returns c = acked_is_closed
