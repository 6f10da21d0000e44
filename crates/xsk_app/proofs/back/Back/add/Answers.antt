use Rattle.std.proofs.Common.{rules, sym, ap, ◌<◌, length}
use Rattle.xsk_turns.specs.Turns.{frame_in}
use Rattle.xsk_app.proofs.Taking.{take_same, take_more, take_full}
use Rattle.xsk_app.proofs.back.Back.add.Goals as goal

pub returns-in-Some : goal.returns-in-Some
returns-in-Some c =
    let few : length c.self.inside.frames.items < 4096 = search rules in
    rw (sym c.self.view_is) (take_more 4096 c.self.inside.frames.items c.push_back_reserved.new.self.items c.in-Some.frame c.args.frame few c.in-Some.is c.push_back_reserved.ensures.items)

pub returns-in_default : goal.returns-in_default
returns-in_default c =
    rw (sym c.self.view_is) (take_same 4096 c.self.inside.frames.items (frame_in c.args.frame) c.self.invariant.0 (ap frame_in c.in_default.is))

pub returns-else-len-lt-MOST_BACK : goal.returns-else-len-lt-MOST_BACK
returns-else-len-lt-MOST_BACK c =
    rw (sym c.self.view_is) (take_full 4096 c.self.inside.frames.items (frame_in c.args.frame) c.self.invariant.0 (search rules))
