use Rattle.std.proofs.Common.{◌+◌, ◌++◌, drop, sym, ap, ◌∙◌}
use Rattle.xsk_why.specs.Frames.{ranges_from}
use Rattle.xsk_why.proofs.Having.{had_at}
use Rattle.xsk_why.proofs.held.push_ranges.Goals as goal

pub loop-frame-preserved : goal.loop-frame-preserved
loop-frame-preserved c =
    let l = c.loop-frame in
    let held = c.args.held.now in
    let i = l.frame-index in
    c.in_ok-begun.ensures (drop (i + 1) held)
    ∙ ap (λ ns. l.text.items ++ ranges_from l.begun ns) (sym (had_at c.args.who held i _ c.loop-frame-test.true)) ∙ l.invariant
