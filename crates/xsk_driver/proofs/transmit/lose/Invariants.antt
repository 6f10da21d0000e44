use Rattle.std.proofs.Common.{◌≡◌, ◌≤◌, ◌++◌, length, take, vec_capacity}
use Rattle.xsk_turns.specs.Turns.{frames_in}
use Rattle.xsk_driver.proofs.transmit.lose.Given as goal

abbrev pub invariant-loop-item : goal.invariant-loop-item
invariant-loop-item l = (vec_capacity l.lost ≡ vec_capacity l.initial.lost) × (length l.lost.items ≤ l.most)
    × (take l.most (l.lost.items ++ frames_in l.items) ≡ take l.most (l.initial.lost.items ++ frames_in l.initial.items))

abbrev pub decreases-loop-item : goal.decreases-loop-item
decreases-loop-item l = length l.items
