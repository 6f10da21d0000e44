use Rattle.xsk_model.proofs.PacketsLaws.{packets-items}
use Rattle.xsk_desc.proofs.laws.each_item_once.Goals as goal

pub returns : goal.returns
returns c = packets-items
