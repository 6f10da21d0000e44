use Rattle.xsk_table.proofs.Meeting.{tells}
use Rattle.xsk_table.proofs.note.take_in.Goals as goal

pub join_seat-requires-clause-keeps : goal.join_seat-requires-clause-keeps
join_seat-requires-clause-keeps c = (tells _ _ _ _ _ c.requires.alone.0 c.requires.alone.1 (λ w p. (c.requires.rests w p).1))
