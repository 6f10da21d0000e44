use Rattle.xsk_ended.proofs.Ended.{ended_leaves_within}
use Rattle.xsk_ended.proofs.laws.ended_leaves_within.Goals as goal

pub returns : goal.returns
returns c = ended_leaves_within
