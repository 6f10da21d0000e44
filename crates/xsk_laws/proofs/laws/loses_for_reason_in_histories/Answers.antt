use Rattle.xsk_laws.proofs.LostForReason.{loses_for_reason_in_histories}
use Rattle.xsk_laws.proofs.laws.loses_for_reason_in_histories.Goals as goal

pub returns : goal.returns
returns c = loses_for_reason_in_histories
