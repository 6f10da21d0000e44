use Rattle.xsk_model.proofs.Seats.{regular_seats}
use Rattle.xsk_model.proofs.laws.regular_seats.Goals as goal

pub returns : goal.returns
returns c = regular_seats
