use Rattle.xsk_model.proofs.CallTheorems.{bodies_dont_matter}
use Rattle.xsk_model.proofs.laws.bodies_dont_matter.Goals as goal

pub returns : goal.returns
returns c = bodies_dont_matter
