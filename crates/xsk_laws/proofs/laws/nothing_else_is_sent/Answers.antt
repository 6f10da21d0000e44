use Rattle.xsk_laws.proofs.Theorems.{nothing_else_is_sent}
use Rattle.xsk_laws.proofs.laws.nothing_else_is_sent.Goals as goal

pub returns : goal.returns
returns c = nothing_else_is_sent
