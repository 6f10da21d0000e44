use Rattle.xsk_laws.proofs.Woken.{no_hand_loses_wakes}
use Rattle.xsk_laws.proofs.laws.no_hand_loses_wakes.Goals as goal

pub returns : goal.returns
returns c = no_hand_loses_wakes
