use Rattle.xsk_legal.proofs.Items.{NotesSubmit}
use Rattle.xsk_legal.proofs.standing.Standing.submitted.Given as goal

abbrev pub invariant-loop-i : goal.invariant-loop-i
invariant-loop-i l = NotesSubmit l.config l.initial.self l.self l.ring l.items l.i
