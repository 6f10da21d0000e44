use Rattle.xsk_audit.proofs.OneVerdict.{one-verdict}
use Rattle.xsk_audit.proofs.laws.one_verdict.Goals as goal

pub returns : goal.returns
returns c = one-verdict
