use Rattle.xsk_laws.proofs.Woken.{no_wakes_are_lost}
use Rattle.xsk_laws.proofs.laws.no_wakes_are_lost.Goals as goal

pub returns : goal.returns
returns c = no_wakes_are_lost
