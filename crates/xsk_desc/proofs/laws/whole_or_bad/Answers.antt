use Rattle.xsk_model.proofs.PacketsLaws.{packets-made}
use Rattle.xsk_desc.proofs.laws.whole_or_bad.Goals as goal

pub returns : goal.returns
returns c = packets-made
