use Rattle.std.proofs.Common.{rules, ◌-◌}
use Rattle.xsk_judge.proofs.Coming.{latest_step, latest_stop}
use Rattle.xsk_judge.proofs.Refusals.{passes_on}
use Rattle.xsk_judge.proofs.following.are_latest.Goals as goal

pub loop-k-preserved : goal.loop-k-preserved
loop-k-preserved c =
    latest_step c.args.setting.now c.args.frames.now c.args.ring c.args.queue.now.first (c.held.result - c.args.count) c.loop-k.k c.args.queue.now.entries c.in-Some.entry
    (search rules) (search rules) c.loop-k.invariant

pub returns-in-Err-clause-rule : goal.returns-in-Err-clause-rule
returns-in-Err-clause-rule c = (
  latest_stop c.args.setting.now c.args.frames.now c.args.ring c.args.queue.now c.args.count c.loop-k.k c.in-Some.entry (search rules) c.loop-k-test.true (search rules) (search rules),
  passes_on c.args.setting.now c.args.frames.now c.args.ring c.args.queue.now c.args.count c.loop-k.k c.in-Some.entry c.in-Err.there (search rules) c.loop-k-test.true (search rules) (search rules)
      (search rules) (search rules),
)
