use Rattle.xsk_rings.proofs.Telling.{may_give_served}
use Rattle.xsk_rings.proofs.laws.may_give_served.Goals as goal

pub returns : goal.returns
returns c = may_give_served
