use Rattle.xsk_model.proofs.FrameTheorems.{opening_is}
use Rattle.xsk_model.proofs.laws.opening_is.Goals as goal

pub returns : goal.returns
returns c = opening_is
