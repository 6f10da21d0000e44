use Rattle.std.proofs.Common.{◌≡◌, ◌≤◌, ◌+◌, length, All}
use Rattle.std.specs.VecDeque.{deque_capacity}
use Rattle.xsk_driver.specs.Groups.{IsWholeFrame}
use Rattle.xsk_driver.proofs.Loops.{Takes}
use Rattle.xsk_driver.proofs.machine.keep_frames.Given as goal

abbrev pub invariant-loop-item : goal.invariant-loop-item
invariant-loop-item l = (deque_capacity l.spare ≡ deque_capacity l.initial.spare) × (length l.spare.items + length l.items ≤ deque_capacity l.spare)
    × All (IsWholeFrame l.chunk) l.spare.items
    × Takes l.chunk l.initial.spare.items l.spare.items l.initial.invalid l.invalid l.initial.items l.items

abbrev pub decreases-loop-item : goal.decreases-loop-item
decreases-loop-item l = length l.items
