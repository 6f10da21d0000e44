use Rattle.xsk_sim.proofs.Bounding.{ends_with_closings}
use Rattle.xsk_sim.proofs.laws.ends_or_stands_still_with_closings.Goals as goal

pub returns : goal.returns
returns c = ends_with_closings
