use Rattle.std.proofs.Common.{rules}
use Rattle.xsk_judge.specs.Judging.{peeked}
use Rattle.xsk_judge.proofs.Coming.{push_step}
use Rattle.xsk_judge.proofs.following.show.Goals as goal

pub loop-i-preserved : goal.loop-i-preserved
loop-i-preserved c =
    push_step c.args.setting.now (peeked c.args.ring c.args.first c.args.line) c.args.at c.args.frames.now c.loop-i.frames c.mark.new.frames c.args.entries.now c.loop-i.i
    c.loop-i-test.true c.loop-i.invariant (search rules)
