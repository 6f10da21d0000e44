use Rattle.xsk_still.proofs.Keeping.{lays_out}
use Rattle.xsk_still.proofs.laws.lays_out.Goals as goal

pub returns : goal.returns
returns c = lays_out
