use Rattle.xsk_model.proofs.Theorems.{had_distinct}
use Rattle.xsk_model.proofs.laws.had_and_distinct.Goals as goal

pub returns : goal.returns
returns c = had_distinct
