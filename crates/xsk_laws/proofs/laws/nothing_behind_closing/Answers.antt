use Rattle.xsk_laws.proofs.Closed.{nothing_behind_closing}
use Rattle.xsk_laws.proofs.laws.nothing_behind_closing.Goals as goal

pub returns : goal.returns
returns c = nothing_behind_closing
