use Rattle.xsk_model.proofs.Closings.{ended_rings}
use Rattle.xsk_model.proofs.laws.ended_rings.Goals as goal

pub returns : goal.returns
returns c = ended_rings
