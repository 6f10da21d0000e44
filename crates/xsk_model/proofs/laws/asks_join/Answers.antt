use Rattle.xsk_model.proofs.AskTheorems.{asks_join}
use Rattle.xsk_model.proofs.laws.asks_join.Goals as goal

pub returns : goal.returns
returns c = asks_join
