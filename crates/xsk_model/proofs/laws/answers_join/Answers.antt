use Rattle.xsk_model.proofs.AskTheorems.{answers_join}
use Rattle.xsk_model.proofs.laws.answers_join.Goals as goal

pub returns : goal.returns
returns c = answers_join
