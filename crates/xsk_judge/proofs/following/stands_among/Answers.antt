use Rattle.std.proofs.Common.{sym, ◌∙◌}
use Rattle.xsk_judge.proofs.Refusals.{among_found, among_step}
use Rattle.xsk_judge.proofs.following.stands_among.Goals as goal

pub returns-then-names : goal.returns-then-names
returns-then-names c =
    among_found c.args.setting.now c.args.frame c.args.entries.now c.loop-i.i c.loop-i-test.true (sym c.names.ensures ∙ c.if-names.true)

pub loop-i-preserved : goal.loop-i-preserved
loop-i-preserved c =
    among_step c.args.setting.now c.args.frame c.args.entries.now c.loop-i.i c.loop-i-test.true c.loop-i.invariant (sym c.names.ensures ∙ c.if-names.false)
