use Rattle.xsk_plain.proofs.Running.{AreNew}
use Rattle.xsk_plain.proofs.noting.new_standings.Given as goal

abbrev pub invariant-loop-who : goal.invariant-loop-who
invariant-loop-who l = AreNew l.config l.standings.items l.who
