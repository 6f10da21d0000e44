use Rattle.xsk_laws.proofs.Theorems.{leaves_once}
use Rattle.xsk_laws.proofs.laws.leaves_once.Goals as goal

pub returns : goal.returns
returns c = leaves_once
