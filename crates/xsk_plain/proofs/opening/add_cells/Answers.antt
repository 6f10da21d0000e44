use Rattle.std.proofs.Common.{◌<◌, length, arith}
use Rattle.xsk_model.specs.Config.{map_of}
use Rattle.xsk_plain.proofs.Openings.{cell_step}
use Rattle.xsk_plain.proofs.opening.add_cells.Goals as goal

pub loop-index-preserved : goal.loop-index-preserved
loop-index-preserved c =
    let within : c.loop-index.index < length (map_of c.args.config.now c.args.port) = omega arith in
    cell_step c.args.marks.now.items c.loop-index.marks.items c.push.new.self.items (map_of c.args.config.now c.args.port) c.loop-index.index c.cell.result
    c.in_ok-push.ensures.items c.loop-index.invariant within c.cell.ensures.value
