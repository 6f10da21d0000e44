use Rattle.xsk_laws.proofs.Theorems.{sent_is_within}
use Rattle.xsk_laws.proofs.laws.sent_is_within.Goals as goal

pub returns : goal.returns
returns c = sent_is_within
