use Rattle.std.proofs.Common.{rules, take}
use Rattle.xsk_machine.proofs.KindCounts.{kinds_step, all_kept_kinds_add_up}
use Rattle.xsk_machine.proofs.figures.DriverFigures.of.Goals as goal

pub loop-disposal-preserved : goal.loop-disposal-preserved
loop-disposal-preserved c =
    kinds_step c.args.disposals.now c.loop-disposal.disposal-index _ _ c.loop-disposal-test.true
    (c.count_kind.ensures (take c.loop-disposal.disposal-index c.args.disposals.now) c.loop-disposal.invariant)

pub returns-clause-each_once : goal.returns-clause-each_once
returns-clause-each_once c = all_kept_kinds_add_up c.args.disposals.now c.loop-disposal.disposal-index _ (search rules) (search rules) c.loop-disposal.invariant
