use Rattle.std.proofs.Common.{◌≡◌, List, flat_map, vec_items}
use Rattle.std.specs.Vec.Iter.{into_iter_items}
use Rattle.xsk_umem.specs.Frame.{Frame}
use Rattle.xsk_turns.specs.Giving.{with_frames}
use Rattle.xsk_app.proofs.app.give_backs.Given as goal

abbrev pub invariant-loop-back : goal.invariant-loop-back
invariant-loop-back l =
    with_frames l.frames (flat_map (λ (back : List Frame). back) (into_iter_items l.back-iterator)) ≡ with_frames l.initial.frames (flat_map (λ (back : List Frame). back) (vec_items l.fn.backs))
