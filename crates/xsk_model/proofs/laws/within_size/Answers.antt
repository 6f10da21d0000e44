use Rattle.xsk_model.proofs.Theorems.{within_size}
use Rattle.xsk_model.proofs.laws.within_size.Goals as goal

pub returns : goal.returns
returns c = within_size
