use Rattle.xsk_model.proofs.PacketsLaws.{packets-append}
use Rattle.xsk_desc.proofs.laws.cut_anywhere.Goals as goal

pub returns : goal.returns
returns c = packets-append
