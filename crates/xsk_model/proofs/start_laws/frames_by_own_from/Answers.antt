use Rattle.xsk_model.proofs.StartTheorems.{frames_by_own_from}
use Rattle.xsk_model.proofs.start_laws.frames_by_own_from.Goals as goal

pub returns : goal.returns
returns c = frames_by_own_from
