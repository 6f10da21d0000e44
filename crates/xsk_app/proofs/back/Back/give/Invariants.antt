use Rattle.std.proofs.Common.{◌≡◌, ◌≤◌, length, map, take, drop}
use Rattle.std.specs.VecDeque.{deque_capacity}
use Rattle.xsk_model.specs.Opening.{home_item}
use Rattle.xsk_app.proofs.back.Back.give.Given as goal

abbrev pub invariant-loop : goal.invariant-loop
invariant-loop l =
    (l.items ≡ map (home_item l.geometry) (take l.counter l.fn.self)) × (l.self-inside.frames.items ≡ drop l.counter l.fn.self)
    × (length l.items ≡ l.counter) × (4096 ≤ deque_capacity l.self-inside.frames)
