use Rattle.xsk_model.proofs.StartTheorems.{changes_state_from}
use Rattle.xsk_model.proofs.start_laws.changes_state_from.Goals as goal

pub returns : goal.returns
returns c = changes_state_from
