use Rattle.std.proofs.Common.{refl}
use Rattle.xsk_model.specs.declared.call.Ring.TheVariants.{Rx}
use Rattle.xsk_judge.proofs.Coming.{come_step, come_stop}
use Rattle.xsk_judge.proofs.Refusals.{stops_at}
use Rattle.xsk_judge.proofs.following.receive.Goals as goal

pub loop-i-preserved : goal.loop-i-preserved
loop-i-preserved c =
    come_step c.args.setting.now (Rx c.args.socket) c.args.first c.args.line c.args.at c.args.frames.now c.loop-i.frames c.receive_one.new.frames c.args.entries.now c.loop-i.i
    refl c.loop-i-test.true c.requires.size c.loop-i.invariant.0 c.loop-i.invariant.1 c.in_default.ensures.ok.0 c.in_default.ensures.ok.1

pub returns-in-Err-clause-denied : goal.returns-in-Err-clause-denied
returns-in-Err-clause-denied c = (
  come_stop c.args.setting.now (Rx c.args.socket) c.args.first c.args.line c.args.at c.args.frames.now c.loop-i.frames c.args.entries.now c.loop-i.i
      c.loop-i-test.true c.loop-i.invariant.0 c.in-Err.ensures.denied.0,
  λ strays.
      stops_at c.args.setting.now (Rx c.args.socket) c.args.first c.args.line c.args.at c.args.skipped strays c.args.frames.now c.loop-i.frames c.args.entries.now c.loop-i.i c.in-Err.denial
      c.loop-i-test.true c.loop-i.invariant.0 c.loop-i.invariant.1 c.in-Err.ensures.denied.1,
)
