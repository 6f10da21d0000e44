use Rattle.xsk_laws.proofs.Unstranded.{none_are_stranded}
use Rattle.xsk_laws.proofs.laws.none_are_stranded.Goals as goal

pub returns : goal.returns
returns c = none_are_stranded
