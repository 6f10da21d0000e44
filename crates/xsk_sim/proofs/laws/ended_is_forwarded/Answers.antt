use Rattle.xsk_sim.proofs.Forwarded.{ended_is_forwarded}
use Rattle.xsk_sim.proofs.laws.ended_is_forwarded.Goals as goal

pub returns : goal.returns
returns c = ended_is_forwarded
