use Rattle.xsk_still.proofs.Marks.{mark_is_told}
use Rattle.xsk_still.proofs.laws.mark_is_told.Goals as goal

pub returns : goal.returns
returns c = mark_is_told
