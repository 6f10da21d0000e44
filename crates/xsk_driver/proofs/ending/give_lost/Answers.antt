use Rattle.std.proofs.Common.{rules, ◌≡◌, [], ◌∷◌}
use Rattle.std.specs.Vec.Iter.{into_iter_items}
use Rattle.xsk_turns.proofs.Appending.{one_given}
use Rattle.xsk_driver.proofs.ending.give_lost.Goals as goal

pub loop-frame-preserved : goal.loop-frame-preserved
loop-frame-preserved c =
    let first : into_iter_items c.loop-frame.frame-iterator ≡ c.in-Some.frame ∷ into_iter_items c.next.new.self = search rules in
    one_given c.args.frames.now c.loop-frame.frames c.give_frame.new.frames c.args.lost.items (into_iter_items c.loop-frame.frame-iterator) (into_iter_items c.next.new.self) (c.in-Some.frame ∷ []) c.loop-frame.invariant first c.give_frame.ensures
