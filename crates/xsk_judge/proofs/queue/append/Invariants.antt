use Rattle.std.proofs.Common.{◌≡◌, ◌++◌, take}
use Rattle.std.specs.VecDeque.{deque_capacity}
use Rattle.xsk_judge.proofs.queue.append.Given as goal

abbrev pub invariant-loop-i : goal.invariant-loop-i
invariant-loop-i l = (l.entries.items ≡ l.initial.entries.items ++ take l.i l.new) × (deque_capacity l.entries ≡ deque_capacity l.initial.entries)
