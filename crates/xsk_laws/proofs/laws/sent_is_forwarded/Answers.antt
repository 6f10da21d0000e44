use Rattle.xsk_laws.proofs.Theorems.{sent_is_forwarded}
use Rattle.xsk_laws.proofs.laws.sent_is_forwarded.Goals as goal

pub returns : goal.returns
returns c = sent_is_forwarded
