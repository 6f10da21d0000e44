use Rattle.std.proofs.Common.{◌≡◌, ◌≤◌, ◌+◌, ◌++◌, length}
use Rattle.std.specs.VecDeque.{deque_capacity}
use Rattle.xsk_driver.proofs.finished.append.Given as goal

-- what was moved and what is left are together all that there was
abbrev pub invariant-loop-item : goal.invariant-loop-item
invariant-loop-item l = (l.queue.items ++ l.items ≡ l.initial.queue.items ++ l.initial.items)
    × (deque_capacity l.queue ≡ deque_capacity l.initial.queue) × (length l.queue.items + length l.items + 1 ≤ deque_capacity l.queue)

abbrev pub decreases-loop-item : goal.decreases-loop-item
decreases-loop-item l = length l.items
