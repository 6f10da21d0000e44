use Rattle.xsk_model.proofs.Theorems.{mark_numbers}
use Rattle.xsk_model.proofs.laws.mark_numbers.Goals as goal

pub returns : goal.returns
returns c = mark_numbers
