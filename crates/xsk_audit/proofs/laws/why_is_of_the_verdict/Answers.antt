use Rattle.xsk_audit.proofs.Agreeing.{why-is-of-verdict}
use Rattle.xsk_audit.proofs.laws.why_is_of_the_verdict.Goals as goal

pub returns : goal.returns
returns c = why-is-of-verdict
