use Rattle.xsk_turns.proofs.AppLanes.{lanes_passed_on}
use Rattle.xsk_turns.proofs.laws.lanes_passed_on.Goals as goal

pub returns : goal.returns
returns c = lanes_passed_on
