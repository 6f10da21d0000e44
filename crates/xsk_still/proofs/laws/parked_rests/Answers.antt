use Rattle.xsk_still.proofs.Resting.{parked_rests}
use Rattle.xsk_still.proofs.laws.parked_rests.Goals as goal

pub returns : goal.returns
returns c = parked_rests
