use Rattle.xsk_sim.proofs.Forwarded.{ended_is_forwarded_until}
use Rattle.xsk_sim.proofs.laws.ended_is_forwarded_until.Goals as goal

pub returns : goal.returns
returns c = ended_is_forwarded_until
