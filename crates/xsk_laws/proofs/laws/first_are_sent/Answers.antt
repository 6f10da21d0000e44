use Rattle.xsk_laws.proofs.Theorems.{first_are_sent}
use Rattle.xsk_laws.proofs.laws.first_are_sent.Goals as goal

pub returns : goal.returns
returns c = first_are_sent
