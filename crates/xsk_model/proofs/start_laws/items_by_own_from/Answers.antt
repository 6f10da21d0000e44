use Rattle.xsk_model.proofs.StartTheorems.{items_by_own_from}
use Rattle.xsk_model.proofs.start_laws.items_by_own_from.Goals as goal

pub returns : goal.returns
returns c = items_by_own_from
