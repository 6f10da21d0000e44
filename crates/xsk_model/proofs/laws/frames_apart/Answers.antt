use Rattle.xsk_model.proofs.FrameTheorems.{frames_apart}
use Rattle.xsk_model.proofs.laws.frames_apart.Goals as goal

pub returns : goal.returns
returns c = frames_apart
