use Rattle.std.proofs.Common.{rules}
use Rattle.xsk_model.specs.Legal.{IsItemOn}
use Rattle.xsk_legal.proofs.Steps.{one_holds}
use Rattle.xsk_legal.proofs.standing.are_items.Goals as goal

pub loop-i-preserved : goal.loop-i-preserved
loop-i-preserved c =
    one_holds (IsItemOn c.args.geometry.now c.args.ring) c.args.items.now c.loop-i.i c.item.result.now c.item.ensures (search rules) c.loop-i.invariant
