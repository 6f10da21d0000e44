use Rattle.xsk_ended.proofs.Until.{all_are_expected}
use Rattle.xsk_ended.proofs.laws.all_are_expected.Goals as goal

pub returns : goal.returns
returns c = all_are_expected
