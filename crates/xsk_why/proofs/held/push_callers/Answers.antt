use Rattle.std.proofs.Common.{◌++◌, ap, ◌∙◌}
use Rattle.xsk_stats.proofs.Lines.{line_more}
use Rattle.xsk_why.specs.Held.{caller_line, line_by}
use Rattle.xsk_why.proofs.held.push_callers.Goals as goal

pub loop-who-preserved : goal.loop-who-preserved
loop-who-preserved c h same =
    let l = c.loop-who in
    line_more (caller_line c.args.pairs h) l.who _ _ _ (l.invariant h same)
    (c.in_ok-push_caller.ensures ∙ ap (λ frames. l.text.items ++ line_by c.args.pairs l.who frames) (same l.who))
