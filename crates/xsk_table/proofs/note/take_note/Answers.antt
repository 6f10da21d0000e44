use Rattle.xsk_table.proofs.Meeting.{notes}
use Rattle.xsk_table.proofs.note.take_note.Goals as goal

pub split_seat-requires-clause-keeps : goal.split_seat-requires-clause-keeps
split_seat-requires-clause-keeps c = (notes _ _ _)
