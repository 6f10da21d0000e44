use Rattle.std.proofs.Common.{◌≡◌, length}
use Rattle.xsk_turns.specs.Turns.{frames_in}
use Rattle.xsk_turns.specs.Giving.{with_frames}
use Rattle.xsk_driver.proofs.ending.give_finished.Given as goal

abbrev pub invariant-loop-item : goal.invariant-loop-item
invariant-loop-item l = with_frames l.frames (frames_in l.items.items) ≡ with_frames l.initial.frames (frames_in l.fn.items.items)

abbrev pub decreases-loop-item : goal.decreases-loop-item
decreases-loop-item l = length l.items.items
