use Rattle.xsk_model.proofs.Theorems.{fitting_gifts}
use Rattle.xsk_model.proofs.laws.fitting_gifts.Goals as goal

pub returns : goal.returns
returns c = fitting_gifts
