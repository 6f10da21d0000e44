use Rattle.xsk_sides.proofs.Told.{tells_all}
use Rattle.xsk_sides.proofs.laws.tells_all.Goals as goal

pub returns : goal.returns
returns c = tells_all
