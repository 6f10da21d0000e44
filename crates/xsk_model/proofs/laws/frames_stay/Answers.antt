use Rattle.xsk_model.proofs.FrameTheorems.{frames_stay}
use Rattle.xsk_model.proofs.laws.frames_stay.Goals as goal

pub returns : goal.returns
returns c = frames_stay
