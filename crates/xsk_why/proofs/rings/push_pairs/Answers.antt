use Rattle.xsk_model.specs.declared.call.Ring.TheVariants.{Fill, Comp}
use Rattle.xsk_stats.proofs.Lines.{after, line_more}
use Rattle.xsk_why.specs.Rings.{pair_lines, ring_line}
use Rattle.xsk_why.proofs.rings.push_pairs.Goals as goal

pub loop-pair-preserved : goal.loop-pair-preserved
loop-pair-preserved c =
    let config = c.args.plain.now.config in
    let rings = c.args.plain.now.rings in
    let d = c.loop-pair.pair in
    line_more (pair_lines config rings) d _ _ _ c.loop-pair.invariant
    (after c.loop-pair.text.items (ring_line config rings (Fill d)) (ring_line config rings (Comp d)) _ _ c.in_ok-push_ring.ensures c.in_ok-push_ring-2.ensures)
