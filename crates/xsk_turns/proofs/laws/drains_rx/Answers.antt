use Rattle.xsk_turns.proofs.AppLanes.{drains_rx}
use Rattle.xsk_turns.proofs.laws.drains_rx.Goals as goal

pub returns : goal.returns
returns c = drains_rx
