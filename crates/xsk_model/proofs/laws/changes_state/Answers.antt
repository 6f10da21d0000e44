use Rattle.xsk_model.proofs.CallTheorems.{changes_state}
use Rattle.xsk_model.proofs.laws.changes_state.Goals as goal

pub returns : goal.returns
returns c = changes_state
