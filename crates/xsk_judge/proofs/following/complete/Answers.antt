use Rattle.std.proofs.Common.{rules, refl, take, arith}
use Rattle.xsk_model.specs.declared.call.Ring.TheVariants.{Comp, Tx}
use Rattle.xsk_judge.proofs.Coming.{come_step, come_stop, still_sent, left_step, left_stop}
use Rattle.xsk_judge.specs.Judging.{given_in}
use Rattle.xsk_judge.proofs.Refusals.{never_sent, stops_at}
use Rattle.xsk_judge.proofs.following.complete.Goals as goal

pub complete_one-requires-clause-sent : goal.complete_one-requires-clause-sent
complete_one-requires-clause-sent c f t is =
    c.requires.sent f t (still_sent c.args.setting.now (Comp c.args.pair) c.args.first c.args.line c.args.at c.args.frames.now c.loop-i.frames (take c.loop-i.i c.args.entries.now) f (Tx t)
    c.requires.size c.loop-i.invariant.0 is)

pub loop-i-preserved : goal.loop-i-preserved
loop-i-preserved c =
    let next = come_step c.args.setting.now (Comp c.args.pair) c.args.first c.args.line c.args.at c.args.frames.now c.loop-i.frames c.complete_one.new.frames c.args.entries.now c.loop-i.i
    refl c.loop-i-test.true c.requires.size c.loop-i.invariant.0 c.loop-i.invariant.1 c.in_default.ensures.ok.0 c.in_default.ensures.ok.1 in
    (next.0, next.1, left_step c.args.setting.now c.args.entries.now c.loop-i.i c.loop-i.left c.stray-stray.result c.args.strays c.loop-i-test.true c.stray-stray.ensures c.loop-i.invariant.2 (search rules))

pub returns-in-Err-clause-denied : goal.returns-in-Err-clause-denied
returns-in-Err-clause-denied c = (
  λ all. come_stop c.args.setting.now (Comp c.args.pair) c.args.first c.args.line c.args.at c.args.frames.now c.loop-i.frames c.args.entries.now c.loop-i.i
      c.loop-i-test.true c.loop-i.invariant.0 c.in-Err.ensures.denied.0 all.0,
  stops_at c.args.setting.now (Comp c.args.pair) c.args.first c.args.line c.args.at c.args.skipped c.args.strays c.args.frames.now c.loop-i.frames c.args.entries.now c.loop-i.i c.in-Err.denial
      c.loop-i-test.true c.loop-i.invariant.0 (c.loop-i.invariant.1.0, (c.loop-i.invariant.1.1, omega (arith, c.loop-i.invariant.2))) c.in-Err.ensures.denied.1,
)

pub returns-then-left-stray-clause-denied : goal.returns-then-left-stray-clause-denied
returns-then-left-stray-clause-denied c = (
  λ all. left_stop c.args.setting.now c.args.entries.now c.loop-i.i c.loop-i.left c.stray-stray.result c.args.strays c.loop-i-test.true c.stray-stray.ensures c.loop-i.invariant.2 (search rules) all.1,
  never_sent c.args.setting.now c.args.pair c.args.first c.args.line c.args.at c.args.skipped c.args.strays c.loop-i.left c.stray-stray.result (given_in c.loop-i.frames) c.args.frames.now
      c.args.entries.now c.loop-i.i c.loop-i-test.true (c.loop-i.invariant.1.0, (c.loop-i.invariant.1.1, omega (arith, c.loop-i.invariant.2))) c.in_default.ensures.ok.1 c.loop-i.invariant.2
      c.stray-stray.ensures (search rules),
)
