use Rattle.std.proofs.Common.{rules, ◌≡◌, ◌∷◌, ap, flat_map}
use Rattle.std.specs.Vec.Iter.{into_iter_items}
use Rattle.xsk_turns.specs.Turns.{frames_in}
use Rattle.xsk_turns.proofs.Appending.{one_given}
use Rattle.xsk_turns.proofs.giving.give_batches.Goals as goal

pub loop-items-preserved : goal.loop-items-preserved
loop-items-preserved c =
    let first : into_iter_items c.loop-items.items-iterator ≡ c.in-Some.items ∷ into_iter_items c.next.new.self = search rules in
    one_given c.args.frames.now c.loop-items.frames c.give_items.new.frames (flat_map frames_in c.args.batches.items) (flat_map frames_in (into_iter_items c.loop-items.items-iterator))
    (flat_map frames_in (into_iter_items c.next.new.self)) (frames_in c.in-Some.items) c.loop-items.invariant (ap (flat_map frames_in) first) c.give_items.ensures
