use Rattle.xsk_sim.proofs.Unique.{one_stall}
use Rattle.xsk_sim.proofs.laws.one_stall.Goals as goal

pub returns : goal.returns
returns c = one_stall
