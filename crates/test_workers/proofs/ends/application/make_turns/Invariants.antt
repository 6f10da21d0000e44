use Rattle.xsk_table.specs.Held.{Belongs}
use Rattle.test_workers.proofs.ends.application.make_turns.Given as goal

abbrev pub invariant-turns : goal.invariant-turns
invariant-turns l = Belongs l.shared l.hand.pass
