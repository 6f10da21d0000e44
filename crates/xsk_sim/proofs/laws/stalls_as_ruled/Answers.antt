use Rattle.xsk_sim.proofs.Verdicts.{stalls_as_ruled}
use Rattle.xsk_sim.proofs.laws.stalls_as_ruled.Goals as goal

pub returns : goal.returns
returns c = stalls_as_ruled
