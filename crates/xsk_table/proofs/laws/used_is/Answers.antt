use Rattle.xsk_table.proofs.Counts.{used_is}
use Rattle.xsk_table.proofs.laws.used_is.Goals as goal

pub returns : goal.returns
returns c = used_is
