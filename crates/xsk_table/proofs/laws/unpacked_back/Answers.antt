use Rattle.xsk_table.proofs.Counts.{unpacked_back}
use Rattle.xsk_table.proofs.laws.unpacked_back.Goals as goal

pub returns : goal.returns
returns c = unpacked_back
