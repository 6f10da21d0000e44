use Rattle.xsk_model.proofs.StartTheorems.{frames_stay_from}
use Rattle.xsk_model.proofs.start_laws.frames_stay_from.Goals as goal

pub returns : goal.returns
returns c = frames_stay_from
