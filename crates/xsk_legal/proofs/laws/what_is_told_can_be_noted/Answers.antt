use Rattle.xsk_legal.proofs.Quiet.{can_be_noted}
use Rattle.xsk_legal.proofs.laws.what_is_told_can_be_noted.Goals as goal

pub returns : goal.returns
returns c = can_be_noted
