use Rattle.std.proofs.Common.{◌≡◌, length}
use Rattle.xsk_turns.specs.Giving.{with_frames}
use Rattle.xsk_turns.proofs.giving.give_frames.Given as goal

abbrev pub invariant-loop-frame : goal.invariant-loop-frame
invariant-loop-frame l = with_frames l.frames l.given.items ≡ with_frames l.initial.frames l.fn.given.items

abbrev pub decreases-loop-frame : goal.decreases-loop-frame
decreases-loop-frame l = length l.given.items
