use Rattle.xsk_laws.proofs.Losing.{forwarded_is_unlost}
use Rattle.xsk_laws.proofs.laws.forwarded_is_unlost.Goals as goal

pub returns : goal.returns
returns c = forwarded_is_unlost
