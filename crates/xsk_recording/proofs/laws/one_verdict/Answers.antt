use Rattle.xsk_recording.proofs.OneVerdict.{one-verdict}
use Rattle.xsk_recording.proofs.laws.one_verdict.Goals as goal

pub returns : goal.returns
returns c = one-verdict
