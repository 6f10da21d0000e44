use Rattle.xsk_model.proofs.StartTheorems.{leaves_state_from}
use Rattle.xsk_model.proofs.start_laws.leaves_state_from.Goals as goal

pub returns : goal.returns
returns c = leaves_state_from
