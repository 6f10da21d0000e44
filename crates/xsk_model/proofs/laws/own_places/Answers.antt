use Rattle.xsk_model.proofs.Theorems.{own_places}
use Rattle.xsk_model.proofs.laws.own_places.Goals as goal

pub returns : goal.returns
returns c = own_places
