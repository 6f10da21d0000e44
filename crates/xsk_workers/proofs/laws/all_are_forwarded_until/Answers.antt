use Rattle.xsk_workers.proofs.Forwarded.{all_forwarded_until}
use Rattle.xsk_workers.proofs.laws.all_are_forwarded_until.Goals as goal

pub returns : goal.returns
returns c = all_forwarded_until
