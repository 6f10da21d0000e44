use Rattle.xsk_workers.proofs.Forwarded.{all_forwarded}
use Rattle.xsk_workers.proofs.laws.all_are_forwarded.Goals as goal

pub returns : goal.returns
returns c = all_forwarded
