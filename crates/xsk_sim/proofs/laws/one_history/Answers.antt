use Rattle.xsk_sim.proofs.Unique.{one_history}
use Rattle.xsk_sim.proofs.laws.one_history.Goals as goal

pub returns : goal.returns
returns c = one_history
