use Rattle.std.proofs.Common.{rules, ◌≡◌, [], ◌∷◌}
use Rattle.xsk_turns.proofs.Appending.{one_given}
use Rattle.xsk_turns.proofs.giving.give_frames.Goals as goal

pub loop-frame-preserved : goal.loop-frame-preserved
loop-frame-preserved c =
    let first : c.loop-frame.given.items ≡ c.in-Some.frame ∷ c.pop_front.new.self.items = search rules in
    one_given c.args.frames.now c.loop-frame.frames c.give_frame.new.frames c.args.given.items c.loop-frame.given.items c.pop_front.new.self.items (c.in-Some.frame ∷ []) c.loop-frame.invariant first c.give_frame.ensures
