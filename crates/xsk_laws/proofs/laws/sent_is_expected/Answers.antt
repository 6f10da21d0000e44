use Rattle.xsk_laws.proofs.Theorems.{sent_is_expected}
use Rattle.xsk_laws.proofs.laws.sent_is_expected.Goals as goal

pub returns : goal.returns
returns c = sent_is_expected
