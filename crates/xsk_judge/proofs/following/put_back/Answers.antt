use Rattle.std.proofs.Common.{rules, refl, ◌-◌}
use Rattle.xsk_judge.specs.Judging.{again}
use Rattle.xsk_judge.proofs.Coming.{back_step}
use Rattle.xsk_judge.proofs.following.put_back.Goals as goal

pub loop-i-preserved : goal.loop-i-preserved
loop-i-preserved c =
    back_step c.args.setting.now (again c.args.ring c.args.line) c.args.frames.now c.loop-i.frames c.mark.new.frames c.args.queue.now.entries (c.held.result - c.args.count) c.loop-i.i c.in-Some.entry
    (search rules) c.loop-i.invariant (λ j k. refl) c.mark.ensures
