use Rattle.xsk_laws.proofs.Cut.{nothing_is_cut}
use Rattle.xsk_laws.proofs.laws.nothing_is_cut.Goals as goal

pub returns : goal.returns
returns c = nothing_is_cut
