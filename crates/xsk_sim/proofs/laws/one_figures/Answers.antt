use Rattle.xsk_sim.proofs.Unique.{one_figures}
use Rattle.xsk_sim.proofs.laws.one_figures.Goals as goal

pub returns : goal.returns
returns c = one_figures
