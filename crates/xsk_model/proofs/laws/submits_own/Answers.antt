use Rattle.xsk_model.proofs.FrameTheorems.{submits_own}
use Rattle.xsk_model.proofs.laws.submits_own.Goals as goal

pub returns : goal.returns
returns c = submits_own
