use Rattle.std.proofs.Common.{rules, ◌≡◌, ◌∷◌, ap}
use Rattle.xsk_turns.specs.Turns.{frame_in, frames_in}
use Rattle.xsk_turns.proofs.Appending.{one_given}
use Rattle.xsk_driver.proofs.ending.give_finished.Goals as goal

pub loop-item-preserved : goal.loop-item-preserved
loop-item-preserved c =
    let first : c.loop-item.items.items ≡ c.in-Some.item ∷ c.pop_front.new.self.items = search rules in
    one_given c.args.frames.now c.loop-item.frames c.give_frame.new.frames (frames_in c.args.items.items) (frames_in c.loop-item.items.items) (frames_in c.pop_front.new.self.items) (frame_in c.in-Some.item.frame)
    c.loop-item.invariant (ap frames_in first) c.give_frame.ensures
