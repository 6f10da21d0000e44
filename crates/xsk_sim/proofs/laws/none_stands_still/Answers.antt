use Rattle.xsk_sim.proofs.Stretch.{none_stands_still}
use Rattle.xsk_sim.proofs.laws.none_stands_still.Goals as goal

pub returns : goal.returns
returns c = none_stands_still
