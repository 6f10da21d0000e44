use Rattle.std.proofs.Common.{length, arith}
use Rattle.xsk_pcapng.proofs.Appending.{size-next, padded_above}
use Rattle.xsk_pcapng.proofs.writing.size_of_list.Goals as goal

pub overflow_add-size-in-loop-i-2 : goal.overflow_add-size-in-loop-i-2
overflow_add-size-in-loop-i-2 c =
    let next = size-next c.args.list.now.packets c.loop-i.i c.get-len.result.now c.get-len.ensures in
    omega (arith, next, padded_above (length c.get-len.result.now), c.padding_of.ensures.value, c.loop-i.invariant, c.requires.few)

pub loop-i-preserved : goal.loop-i-preserved
loop-i-preserved c =
    let next = size-next c.args.list.now.packets c.loop-i.i c.get-len.result.now c.get-len.ensures in
    omega (arith, next, padded_above (length c.get-len.result.now), c.padding_of.ensures.value, c.loop-i.invariant)
