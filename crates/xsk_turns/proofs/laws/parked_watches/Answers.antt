use Rattle.xsk_turns.proofs.Watching.{parked_watches}
use Rattle.xsk_turns.proofs.laws.parked_watches.Goals as goal

pub returns : goal.returns
returns c = parked_watches
