use Rattle.xsk_legal.proofs.Quiet.{begins_with_none}
use Rattle.xsk_legal.proofs.laws.notes_begin_with_no_item.Goals as goal

pub returns : goal.returns
returns c = begins_with_none
