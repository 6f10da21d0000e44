use Rattle.xsk_model.proofs.Closings.{all_completed}
use Rattle.xsk_model.proofs.laws.all_completed.Goals as goal

pub returns : goal.returns
returns c = all_completed
