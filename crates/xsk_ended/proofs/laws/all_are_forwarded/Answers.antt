use Rattle.xsk_ended.proofs.Until.{all_are_forwarded}
use Rattle.xsk_ended.proofs.laws.all_are_forwarded.Goals as goal

pub returns : goal.returns
returns c = all_are_forwarded
