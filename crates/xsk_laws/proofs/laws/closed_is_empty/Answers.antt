use Rattle.xsk_laws.proofs.Closed.{closed_is_empty}
use Rattle.xsk_laws.proofs.laws.closed_is_empty.Goals as goal

pub returns : goal.returns
returns c = closed_is_empty
