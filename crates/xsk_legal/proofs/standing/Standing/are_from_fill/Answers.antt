use Rattle.std.proofs.Common.{rules}
use Rattle.xsk_umem.specs.declared.batch.Item.{Item}
use Rattle.xsk_legal.specs.Pieces.{IsFill, item_source}
use Rattle.xsk_legal.proofs.Steps.{one_holds}
use Rattle.xsk_legal.proofs.standing.Standing.are_from_fill.Goals as goal

pub loop-i-preserved : goal.loop-i-preserved
loop-i-preserved c =
    one_holds (λ (item : Item). IsFill (item_source c.args.self.now.sources item)) c.args.items.now c.loop-i.i c.item.result.now c.item.ensures (search rules) c.loop-i.invariant
