use Rattle.xsk_model.proofs.StartTheorems.{one_more_from}
use Rattle.xsk_model.proofs.start_laws.one_more_from.Goals as goal

pub returns : goal.returns
returns c = one_more_from
