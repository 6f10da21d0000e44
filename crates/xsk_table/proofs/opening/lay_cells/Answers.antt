use Rattle.std.proofs.Common.{◌<◌, subst}
use Rattle.xsk_table.proofs.Laying.{cells_more}
use Rattle.xsk_table.proofs.opening.lay_cells.Goals as goal

pub loop-index-preserved : goal.loop-index-preserved
loop-index-preserved c = cells_more c.args.config.now c.args.row.now c.loop-index.row c.args.port c.loop-index.index _ _ c.requires.config c.requires.port
    (subst (λ n. c.loop-index.index < n) c.cells-index-end.ensures.value c.loop-index-test.true) c.requires.wide c.mark_word.ensures.value c.cell.ensures.value c.loop-index.invariant.0 c.loop-index.invariant.1
