use Rattle.std.proofs.Common.{rules}
use Rattle.xsk_judge.proofs.Marking.{give_step, give_stop}
use Rattle.xsk_judge.proofs.Refusals.{gives_frame, gives_twice}
use Rattle.xsk_judge.proofs.following.give.Goals as goal

pub loop-i-preserved : goal.loop-i-preserved
loop-i-preserved c =
    give_step c.args.setting.now c.args.ring c.args.line c.args.frames.now c.loop-i.frames c.give_one.new.frames c.args.entries.now c.loop-i.i c.loop-i-test.true c.requires
    c.loop-i.invariant.0 c.loop-i.invariant.1 c.in_default.ensures.ok.0 c.in_default.ensures.ok.1

pub returns-then-stands_among-clause-rule : goal.returns-then-stands_among-clause-rule
returns-then-stands_among-clause-rule c = (
  give_stop c.args.setting.now c.args.ring c.args.line c.args.frames.now c.loop-i.frames c.args.entries.now c.loop-i.i c.loop-i-test.true c.requires
      c.loop-i.invariant.0 c.in-Err.ensures.not_mine.0,
  gives_twice c.args.setting.now c.args.frames.now c.args.entries.now c.loop-i.i c.in-Err.frame c.loop-i-test.true c.loop-i.invariant.1 c.in-Err.ensures.not_mine.1 c.in-Err.ensures.not_mine.2
      (search rules),
)

pub returns-in-Err-clause-rule : goal.returns-in-Err-clause-rule
returns-in-Err-clause-rule c = (
  give_stop c.args.setting.now c.args.ring c.args.line c.args.frames.now c.loop-i.frames c.args.entries.now c.loop-i.i c.loop-i-test.true c.requires
      c.loop-i.invariant.0 c.in-Err.ensures.not_mine.0,
  gives_frame c.args.setting.now c.args.ring c.args.line c.args.frames.now c.loop-i.frames c.args.entries.now c.loop-i.i c.in-Err.frame c.in-Err.there c.loop-i-test.true
      c.loop-i.invariant.0 c.loop-i.invariant.1 c.in-Err.ensures.not_mine.1 c.in-Err.ensures.not_mine.2 c.in-Err.ensures.not_mine.3 c.in-Err.ensures.not_mine.0 (search rules),
)
