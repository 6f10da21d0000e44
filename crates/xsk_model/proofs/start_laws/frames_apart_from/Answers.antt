use Rattle.xsk_model.proofs.StartTheorems.{frames_apart_from}
use Rattle.xsk_model.proofs.start_laws.frames_apart_from.Goals as goal

pub returns : goal.returns
returns c = frames_apart_from
