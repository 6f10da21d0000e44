use Rattle.xsk_model.proofs.Theorems.{leaves_folds}
use Rattle.xsk_model.proofs.laws.leaves_folds.Goals as goal

pub returns : goal.returns
returns c = leaves_folds
