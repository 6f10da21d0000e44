use Rattle.std.proofs.Common.{rules, ◌≡◌, ◌∷◌, List, ap, flat_map}
use Rattle.std.specs.Vec.Iter.{into_iter_items}
use Rattle.xsk_umem.specs.Frame.{Frame}
use Rattle.xsk_turns.proofs.Appending.{one_given}
use Rattle.xsk_app.proofs.app.give_backs.Goals as goal

abbrev all_of : List (List Frame) → List Frame
all_of backs = flat_map (λ (back : List Frame). back) backs

pub loop-back-preserved : goal.loop-back-preserved
loop-back-preserved c =
    let first : into_iter_items c.loop-back.back-iterator ≡ c.in-Some.back ∷ into_iter_items c.next.new.self = search rules in
    one_given c.args.frames.now c.loop-back.frames c.give_all.new.frames (all_of c.args.backs.items) (all_of (into_iter_items c.loop-back.back-iterator)) (all_of (into_iter_items c.next.new.self)) c.in-Some.back
    c.loop-back.invariant (ap all_of first) c.give_all.ensures
