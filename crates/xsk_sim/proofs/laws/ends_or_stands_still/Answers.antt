use Rattle.xsk_sim.proofs.Bounding.{ends_or_stands_still}
use Rattle.xsk_sim.proofs.laws.ends_or_stands_still.Goals as goal

pub returns : goal.returns
returns c = ends_or_stands_still
