use Rattle.xsk_laws.proofs.Losing.{only_redirected_are_lost}
use Rattle.xsk_laws.proofs.laws.only_redirected_are_lost.Goals as goal

pub returns : goal.returns
returns c = only_redirected_are_lost
