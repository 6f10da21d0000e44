use Rattle.xsk_model.proofs.CallTheorems.{exact_completion}
use Rattle.xsk_model.proofs.laws.exact_completion.Goals as goal

pub returns : goal.returns
returns c = exact_completion
