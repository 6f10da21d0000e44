use Rattle.std.proofs.Common.{◌≡◌, vec_items}
use Rattle.std.specs.Vec.Iter.{into_iter_items}
use Rattle.xsk_turns.specs.Giving.{with_frames}
use Rattle.xsk_driver.proofs.ending.give_lost.Given as goal

abbrev pub invariant-loop-frame : goal.invariant-loop-frame
invariant-loop-frame l = with_frames l.frames (into_iter_items l.frame-iterator) ≡ with_frames l.initial.frames (vec_items l.fn.lost)
