use Rattle.std.proofs.Common.{◌≡◌, ◌++◌, take, map}
use Rattle.xsk_judge.specs.First.{comp_queue}
use Rattle.xsk_judge.proofs.first.push_comps.Given as goal

abbrev pub invariant-loop-i : goal.invariant-loop-i
invariant-loop-i l = l.queues.items ≡ l.initial.queues.items ++ map comp_queue (take l.i l.pairs)
