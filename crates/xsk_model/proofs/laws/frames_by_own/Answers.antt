use Rattle.xsk_model.proofs.Theorems.{frames_by_own}
use Rattle.xsk_model.proofs.laws.frames_by_own.Goals as goal

pub returns : goal.returns
returns c = frames_by_own
