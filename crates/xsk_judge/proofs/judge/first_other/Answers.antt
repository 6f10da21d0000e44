use Rattle.std.proofs.Common.{rules, arith, length-drop}
use Rattle.xsk_judge.proofs.Agreeing.{same_step, same_stop}
use Rattle.xsk_judge.proofs.Refusals.{differ_at}
use Rattle.xsk_judge.proofs.judge.first_other.Goals as goal

pub overflow_add-held : goal.overflow_add-held
overflow_add-held c = omega (
  arith,
  c.held-held.ensures.value,
  c.held-held.ensures.room,
  c.held-held.ensures.fits,
  c.requires.standing,
  c.loop-i-test.true,
  length-drop c.args.queue.now.held c.args.queue.now.entries,
)

pub loop-i-preserved : goal.loop-i-preserved
loop-i-preserved c =
    same_step c.args.queue.now c.args.entries.now c.args.again c.loop-i.i c.requires.standing c.requires.within c.loop-i-test.true c.loop-i.invariant (search rules)

pub returns-then-not-is_at-clause-same : goal.returns-then-not-is_at-clause-same
returns-then-not-is_at-clause-same c = (
  λ h. absurd (cc),
  λ same. absurd (same_stop c.args.queue.now c.args.entries.now c.args.again c.loop-i.i c.requires.standing c.requires.within c.loop-i-test.true (search rules) same),
)

pub returns-then-not-is_at-clause-known : goal.returns-then-not-is_at-clause-known
returns-then-not-is_at-clause-known c = (
  c.loop-i-test.true,
  c.loop-i.invariant,
  differ_at c.args.queue.now c.args.entries.now c.loop-i.i
      (omega (arith, c.requires.standing, c.loop-i-test.true, c.held-held.ensures.value, length-drop c.args.queue.now.held c.args.queue.now.entries)) (search rules),
)
