use Rattle.xsk_model.proofs.Theorems.{counts_agree}
use Rattle.xsk_model.proofs.laws.counts_agree.Goals as goal

pub returns : goal.returns
returns c = counts_agree
