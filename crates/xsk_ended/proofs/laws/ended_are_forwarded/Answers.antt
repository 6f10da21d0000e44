use Rattle.xsk_ended.proofs.Until.{ended_are_forwarded}
use Rattle.xsk_ended.proofs.laws.ended_are_forwarded.Goals as goal

pub returns : goal.returns
returns c = ended_are_forwarded
