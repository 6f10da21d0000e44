use Rattle.xsk_laws.proofs.LostForReason.{loses_for_reason}
use Rattle.xsk_laws.proofs.laws.loses_for_reason.Goals as goal

pub returns : goal.returns
returns c = loses_for_reason
