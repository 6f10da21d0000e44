use Rattle.xsk_sim.proofs.Unique.{one_log}
use Rattle.xsk_sim.proofs.laws.one_log.Goals as goal

pub returns : goal.returns
returns c = one_log
