use Rattle.xsk_still.proofs.Ended.{no_stretch}
use Rattle.xsk_still.proofs.laws.no_stretch.Goals as goal

pub returns : goal.returns
returns c = no_stretch
