use Rattle.xsk_ended.proofs.Ended.{ended_is_within}
use Rattle.xsk_ended.proofs.laws.ended_is_within.Goals as goal

pub returns : goal.returns
returns c = ended_is_within
