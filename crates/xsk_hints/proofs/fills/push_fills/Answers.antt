use Rattle.std.proofs.Common.{◌<◌, length, rules}
use Rattle.xsk_hints.specs.Fills.{told_fill, fill_lines}
use Rattle.xsk_hints.proofs.Texts.{line_more, retold}
use Rattle.xsk_hints.proofs.fills.push_fills.Goals as goal

pub loop-pair-preserved : goal.loop-pair-preserved
loop-pair-preserved c lines feeds =
    let s = c.args.setting.now in
    let d = c.loop-pair.pair in
    let low : d < length s.pairs = search rules in
    line_more (fill_lines s lines) d _ _ _ (c.loop-pair.invariant lines feeds)
    (retold (told_fill d) _ _ _ _ c.in_ok-push_fill.ensures (feeds d low))
