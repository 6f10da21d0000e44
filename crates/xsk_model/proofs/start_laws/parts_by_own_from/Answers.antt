use Rattle.xsk_model.proofs.StartTheorems.{parts_by_own_from}
use Rattle.xsk_model.proofs.start_laws.parts_by_own_from.Goals as goal

pub returns : goal.returns
returns c = parts_by_own_from
