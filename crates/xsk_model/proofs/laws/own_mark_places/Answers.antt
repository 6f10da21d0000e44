use Rattle.xsk_model.proofs.Theorems.{own_mark_places}
use Rattle.xsk_model.proofs.laws.own_mark_places.Goals as goal

pub returns : goal.returns
returns c = own_mark_places
