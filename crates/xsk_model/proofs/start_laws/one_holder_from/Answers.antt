use Rattle.xsk_model.proofs.StartTheorems.{one_holder_from}
use Rattle.xsk_model.proofs.start_laws.one_holder_from.Goals as goal

pub returns : goal.returns
returns c = one_holder_from
