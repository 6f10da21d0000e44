use Rattle.xsk_legal.proofs.Items.{NotesPeek}
use Rattle.xsk_legal.proofs.standing.Standing.peeked.Given as goal

abbrev pub invariant-loop-i : goal.invariant-loop-i
invariant-loop-i l = NotesPeek l.config l.initial.self l.self l.ring l.items l.i
