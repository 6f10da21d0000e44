use Rattle.xsk_model.proofs.Theorems.{completes_one}
use Rattle.xsk_model.proofs.laws.one_completion.Goals as goal

pub returns : goal.returns
returns c = completes_one
