use Rattle.xsk_side.proofs.Holders.{one_holder}
use Rattle.xsk_side.proofs.laws.one_holder.Goals as goal

pub returns : goal.returns
returns c = one_holder
