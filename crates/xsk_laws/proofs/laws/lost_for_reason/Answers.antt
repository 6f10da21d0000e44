use Rattle.xsk_laws.proofs.LostForReason.{lost_for_reason}
use Rattle.xsk_laws.proofs.laws.lost_for_reason.Goals as goal

pub returns : goal.returns
returns c = lost_for_reason
