use Rattle.xsk_legal.proofs.Quiet.{needs_no_note}
use Rattle.xsk_legal.proofs.laws.some_calls_need_no_note.Goals as goal

pub returns : goal.returns
returns c = needs_no_note
