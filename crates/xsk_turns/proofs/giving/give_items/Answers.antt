use Rattle.std.proofs.Common.{ap}
use Rattle.xsk_turns.specs.Turns.{frame_in, frames_in}
use Rattle.xsk_turns.proofs.Appending.{one_given}
use Rattle.xsk_turns.proofs.giving.give_items.Goals as goal

pub loop-item-preserved : goal.loop-item-preserved
loop-item-preserved c =
    one_given c.args.frames.now c.loop-item.frames c.give_frame.new.frames (frames_in c.args.items) (frames_in c.loop-item.items) (frames_in c.pop_front.new.self) (frame_in c.in-Some.item.frame)
    c.loop-item.invariant (ap frames_in c.in-Some.ensures.some) c.give_frame.ensures
