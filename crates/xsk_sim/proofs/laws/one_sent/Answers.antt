use Rattle.xsk_sim.proofs.Unique.{one_sent}
use Rattle.xsk_sim.proofs.laws.one_sent.Goals as goal

pub returns : goal.returns
returns c = one_sent
