use Rattle.xsk_model.proofs.AskTheorems.{calls_split}
use Rattle.xsk_model.proofs.laws.calls_split.Goals as goal

pub returns : goal.returns
returns c = calls_split
