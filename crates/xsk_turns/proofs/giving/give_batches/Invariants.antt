use Rattle.std.proofs.Common.{◌≡◌, flat_map, vec_items}
use Rattle.std.specs.Vec.Iter.{into_iter_items}
use Rattle.xsk_turns.specs.Turns.{frames_in}
use Rattle.xsk_turns.specs.Giving.{with_frames}
use Rattle.xsk_turns.proofs.giving.give_batches.Given as goal

abbrev pub invariant-loop-items : goal.invariant-loop-items
invariant-loop-items l = with_frames l.frames (flat_map frames_in (into_iter_items l.items-iterator)) ≡ with_frames l.initial.frames (flat_map frames_in (vec_items l.fn.batches))
