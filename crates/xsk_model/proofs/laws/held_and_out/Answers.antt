use Rattle.xsk_model.proofs.FrameTheorems.{held_and_out}
use Rattle.xsk_model.proofs.laws.held_and_out.Goals as goal

pub returns : goal.returns
returns c = held_and_out
