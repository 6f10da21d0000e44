use Rattle.std.proofs.Common.{List, ◌∙◌, ap, arith}
use Rattle.std.proofs.Math.ListN.{set}
use Rattle.xsk_c.specs.Items.{drawn_of}
use Rattle.xsk_c.specs.declared.items.Desc.{Desc}
use Rattle.xsk_c.proofs.Lists.{put_next}
use Rattle.xsk_c.proofs.items.write_descs.Goals as goal

pub loop-i-preserved : goal.loop-i-preserved
loop-i-preserved c =
    ap (λ (l : List Desc). set l c.loop-i.i (drawn_of c.item-item.result.now)) c.loop-i.invariant
    ∙ put_next drawn_of c.args.items.now c.args.descs.now c.loop-i.i c.item-item.result.now c.item-item.ensures (omega (arith, c.loop-i-test.true, c.min-count.ensures))
