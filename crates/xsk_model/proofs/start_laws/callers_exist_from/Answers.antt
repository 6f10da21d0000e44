use Rattle.xsk_model.proofs.StartTheorems.{callers_exist_from}
use Rattle.xsk_model.proofs.start_laws.callers_exist_from.Goals as goal

pub returns : goal.returns
returns c = callers_exist_from
