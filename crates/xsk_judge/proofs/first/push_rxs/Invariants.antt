use Rattle.std.proofs.Common.{◌≡◌, ◌++◌, take, map}
use Rattle.xsk_judge.specs.First.{rx_queue}
use Rattle.xsk_judge.proofs.first.push_rxs.Given as goal

abbrev pub invariant-loop-i : goal.invariant-loop-i
invariant-loop-i l = l.queues.items ≡ l.initial.queues.items ++ map rx_queue (take l.i l.sockets)
