use Rattle.xsk_model.proofs.AskTheorems.{replies_split}
use Rattle.xsk_model.proofs.laws.replies_split.Goals as goal

pub returns : goal.returns
returns c = replies_split
