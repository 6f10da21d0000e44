use Rattle.xsk_model.proofs.FrameTheorems.{frames_below}
use Rattle.xsk_model.proofs.laws.frames_below.Goals as goal

pub returns : goal.returns
returns c = frames_below
