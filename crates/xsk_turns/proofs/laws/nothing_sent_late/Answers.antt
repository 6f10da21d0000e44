use Rattle.xsk_turns.proofs.AppLanes.{nothing_sent_late}
use Rattle.xsk_turns.proofs.laws.nothing_sent_late.Goals as goal

pub returns : goal.returns
returns c = nothing_sent_late
