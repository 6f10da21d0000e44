use Rattle.xsk_model.proofs.Theorems.{leaves_others}
use Rattle.xsk_model.proofs.laws.leaves_others.Goals as goal

pub returns : goal.returns
returns c = leaves_others
