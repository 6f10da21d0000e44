use Rattle.xsk_stats.specs.Report.{socket_lines}
use Rattle.xsk_stats.proofs.Lines.{pair_more}
use Rattle.xsk_stats.proofs.text.push_all_sockets.Goals as goal

pub loop-pair-preserved : goal.loop-pair-preserved
loop-pair-preserved c =
    pair_more (λ pair driver. socket_lines c.args.classes pair driver.counters) c.args.config.now c.args.drivers.now c.loop-pair.pair
    _ _ _ _ _ c.pair_of.ensures c.figures_of.ensures c.loop-pair.invariant c.in_ok-push_sockets.ensures
