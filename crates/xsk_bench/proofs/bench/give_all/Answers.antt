use Rattle.std.proofs.Common.{rules, ◌≡◌, ◌∷◌, ap}
use Rattle.std.specs.Vec.Iter.{into_iter_items}
use Rattle.xsk_driver.specs.Frames.{frames_kept}
use Rattle.xsk_turns.proofs.Appending.{one_given}
use Rattle.xsk_bench.specs.Played.{frames_with}
use Rattle.xsk_bench.proofs.bench.give_all.Goals as goal

pub loop-seat-preserved : goal.loop-seat-preserved
loop-seat-preserved c =
    let first : into_iter_items c.loop-seat.seat-iterator ≡ c.in-Some.seat ∷ into_iter_items c.next.new.self = search rules in
    one_given c.args.frames.now c.loop-seat.frames c.give_frames.new.frames (frames_with c.args.seats.items) (frames_with (into_iter_items c.loop-seat.seat-iterator))
    (frames_with (into_iter_items c.next.new.self)) (frames_kept c.in-Some.seat.driver.kept) c.loop-seat.invariant (ap frames_with first) c.give_frames.ensures
