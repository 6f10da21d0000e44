use Rattle.xsk_judge.proofs.Coming.{strays_step}
use Rattle.xsk_judge.proofs.following.count_strays.Goals as goal

pub loop-i-preserved : goal.loop-i-preserved
loop-i-preserved c = strays_step c.args.setting.now c.args.entries.now c.loop-i.i c.loop-i.strays c.stray-strays.result c.loop-i-test.true c.stray-strays.ensures c.loop-i.invariant.0 c.loop-i.invariant.1
