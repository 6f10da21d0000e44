use Rattle.xsk_sides.proofs.Journals.{journals}
use Rattle.xsk_sides.proofs.laws.journals.Goals as goal

pub returns : goal.returns
returns c = journals
