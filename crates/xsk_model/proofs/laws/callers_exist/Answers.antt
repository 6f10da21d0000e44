use Rattle.xsk_model.proofs.CallTheorems.{callers_exist}
use Rattle.xsk_model.proofs.laws.callers_exist.Goals as goal

pub returns : goal.returns
returns c = callers_exist
