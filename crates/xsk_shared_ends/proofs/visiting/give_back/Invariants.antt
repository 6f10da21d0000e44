use Rattle.std.proofs.Common.{length}
use Rattle.xsk_shared_ends.proofs.Giving.{Gives}
use Rattle.xsk_shared_ends.proofs.visiting.give_back.Given as goal

abbrev pub invariant-groups : goal.invariant-groups
invariant-groups l = Gives l.config l.fn.pass l.fn.back l.pass l.back l.items

abbrev pub decreases-groups : goal.decreases-groups
decreases-groups l = length l.back
