use Rattle.xsk_sim.proofs.Unique.{ends_or_stalls}
use Rattle.xsk_sim.proofs.laws.ends_or_stalls.Goals as goal

pub returns : goal.returns
returns c = ends_or_stalls
