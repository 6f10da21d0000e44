use Rattle.std.proofs.Common.{◌≡◌, drop}
use Rattle.std.specs.VecDeque.{deque_capacity}
use Rattle.xsk_judge.proofs.queue.drop_front.Given as goal

abbrev pub invariant-loop-i : goal.invariant-loop-i
invariant-loop-i l = (l.entries.items ≡ drop l.i l.initial.entries.items) × (deque_capacity l.entries ≡ deque_capacity l.initial.entries)
