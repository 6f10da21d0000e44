use Rattle.xsk_turns.proofs.AppLanes.{lanes_in_order}
use Rattle.xsk_turns.proofs.laws.lanes_in_order.Goals as goal

pub returns : goal.returns
returns c = lanes_in_order
