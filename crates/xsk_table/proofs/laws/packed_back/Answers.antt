use Rattle.xsk_table.proofs.Counts.{packed_back}
use Rattle.xsk_table.proofs.laws.packed_back.Goals as goal

pub returns : goal.returns
returns c = packed_back
