use Rattle.std.proofs.Common.{◌≡◌, ◌+◌, ◌≤◌, ◌++◌, length}
use Rattle.std.specs.VecDeque.{deque_capacity}
use Rattle.xsk_turns.specs.Turns.{frames_in}
use Rattle.xsk_app.proofs.back.Back.keep.Given as goal

abbrev pub invariant-loop : goal.invariant-loop
invariant-loop l =
    (l.self-inside.frames.items ++ frames_in l.items ≡ frames_in l.fn.items) × (length l.self-inside.frames.items ≤ l.counter)
    × (length l.items + l.counter ≡ l.end) × (4096 ≤ deque_capacity l.self-inside.frames)
