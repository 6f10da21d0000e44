use Rattle.std.proofs.Common.{◌≡◌, vec_items}
use Rattle.std.specs.Vec.Iter.{into_iter_items}
use Rattle.xsk_turns.specs.Giving.{with_frames}
use Rattle.xsk_bench.specs.Played.{frames_with}
use Rattle.xsk_bench.proofs.bench.give_all.Given as goal

abbrev pub invariant-loop-seat : goal.invariant-loop-seat
invariant-loop-seat l = with_frames l.frames (frames_with (into_iter_items l.seat-iterator)) ≡ with_frames l.initial.frames (frames_with (vec_items l.fn.seats))
