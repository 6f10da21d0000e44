use Rattle.xsk_ended.proofs.Ended.{ended_bounced_as_said}
use Rattle.xsk_ended.proofs.laws.ended_bounced_as_said.Goals as goal

pub returns : goal.returns
returns c = ended_bounced_as_said
