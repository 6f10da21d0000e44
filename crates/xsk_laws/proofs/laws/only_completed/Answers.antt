use Rattle.xsk_laws.proofs.Theorems.{only_completed}
use Rattle.xsk_laws.proofs.laws.only_completed.Goals as goal

pub returns : goal.returns
returns c = only_completed
