use Rattle.xsk_model.proofs.PacketsLaws.{packets-only}
use Rattle.xsk_desc.proofs.laws.no_other_packets.Goals as goal

pub returns : goal.returns
returns c = packets-only
