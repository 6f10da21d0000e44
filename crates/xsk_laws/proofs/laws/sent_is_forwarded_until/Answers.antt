use Rattle.xsk_laws.proofs.Cut.{sent_is_forwarded_until}
use Rattle.xsk_laws.proofs.laws.sent_is_forwarded_until.Goals as goal

pub returns : goal.returns
returns c = sent_is_forwarded_until
