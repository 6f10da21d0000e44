use Rattle.xsk_model.proofs.Theorems.{few_in_rings}
use Rattle.xsk_model.proofs.laws.few_in_rings.Goals as goal

pub returns : goal.returns
returns c = few_in_rings
