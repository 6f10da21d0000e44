use Rattle.xsk_model.proofs.CallTheorems.{leaves_state}
use Rattle.xsk_model.proofs.laws.leaves_state.Goals as goal

pub returns : goal.returns
returns c = leaves_state
