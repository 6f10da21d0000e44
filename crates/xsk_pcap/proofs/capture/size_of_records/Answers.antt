use Rattle.std.proofs.Common.{◌+◌, length, drop, ap, arith, length-append}
use Rattle.std.specs.List.{concat}
use Rattle.xsk_pcap.proofs.Writing.{drop_slice_get}
use Rattle.xsk_pcap.proofs.capture.size_of_records.Goals as goal

pub loop-i-preserved : goal.loop-i-preserved
loop-i-preserved c =
    let packets = c.args.list.now.packets in
    let packet = c.get.result.now in
    let is = drop_slice_get packets c.loop-i.i packet c.get.ensures in
    omega (arith, c.loop-i.invariant, ap length is, ap (λ ps. length (concat ps)) is, length-append packet (concat (drop (c.loop-i.i + 1) packets)))
