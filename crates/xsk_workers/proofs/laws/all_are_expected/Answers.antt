use Rattle.xsk_workers.proofs.Forwarded.{all_expected}
use Rattle.xsk_workers.proofs.laws.all_are_expected.Goals as goal

pub returns : goal.returns
returns c = all_expected
