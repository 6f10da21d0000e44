use Rattle.xsk_side.proofs.First.{first_parts}
use Rattle.xsk_side.proofs.laws.first_parts.Goals as goal

pub returns : goal.returns
returns c = first_parts
