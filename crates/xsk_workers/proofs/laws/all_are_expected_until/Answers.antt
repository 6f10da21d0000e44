use Rattle.xsk_workers.proofs.Forwarded.{all_expected_until}
use Rattle.xsk_workers.proofs.laws.all_are_expected_until.Goals as goal

pub returns : goal.returns
returns c = all_expected_until
