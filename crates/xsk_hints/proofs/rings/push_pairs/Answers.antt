use Rattle.xsk_hints.specs.Told.{pair_lines}
use Rattle.xsk_hints.proofs.Texts.{after, line_more}
use Rattle.xsk_hints.proofs.rings.push_pairs.Goals as goal

pub loop-pair-preserved : goal.loop-pair-preserved
loop-pair-preserved c lines stands notes =
    line_more (pair_lines c.args.setting.now c.args.hints.now.metadata lines) c.loop-pair.pair _ _ _ (c.loop-pair.invariant lines stands notes)
    (after _ _ _ _ _ (c.in_ok-push_made.ensures lines stands notes) (c.in_ok-push_shown.ensures lines stands))
