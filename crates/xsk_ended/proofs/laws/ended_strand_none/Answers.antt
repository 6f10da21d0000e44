use Rattle.xsk_ended.proofs.Unstranded.{ended_strand_none}
use Rattle.xsk_ended.proofs.laws.ended_strand_none.Goals as goal

pub returns : goal.returns
returns c = ended_strand_none
