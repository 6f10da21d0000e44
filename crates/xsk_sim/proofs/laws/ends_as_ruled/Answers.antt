use Rattle.xsk_sim.proofs.Verdicts.{ends_as_ruled}
use Rattle.xsk_sim.proofs.laws.ends_as_ruled.Goals as goal

pub returns : goal.returns
returns c = ends_as_ruled
