use Rattle.std.proofs.Common.{◌+◌, ◌++◌, drop, ap, sym, ◌∙◌, arith}
use Rattle.std.specs.List.{concat}
use Rattle.xsk_pcapng.specs.Written.{list_blocks}
use Rattle.xsk_pcapng.proofs.Appending.{list-next, size-next}
use Rattle.xsk_pcapng.proofs.writing.append_packets.Goals as goal

pub append_packet-requires-clause-room : goal.append_packet-requires-clause-room
append_packet-requires-clause-room c =
    let next = size-next c.args.list.now.packets c.loop-i.i c.get.result.now c.get.ensures in
    omega (arith, next, c.loop-i.invariant.size, c.loop-i.invariant.capacity, c.requires.room)

pub loop-i-preserved : goal.loop-i-preserved
loop-i-preserved c =
    let packets = c.args.list.now.packets in
    let next = size-next packets c.loop-i.i c.get.result.now c.get.ensures in
    record {
      so_far =
          ap (λ t. t ++ concat (list_blocks c.args.interface (c.args.number + (c.loop-i.i + 1)) (drop (c.loop-i.i + 1) packets))) c.append_packet.ensures.text
          ∙ sym (list-next c.loop-i.text.items c.args.interface c.args.number c.loop-i.i packets c.get.result.now c.get.ensures)
          ∙ c.loop-i.invariant.so_far;
      size = omega (arith, next, c.loop-i.invariant.size, c.append_packet.ensures.room);
      capacity = omega (arith, c.loop-i.invariant.capacity, c.append_packet.ensures.capacity);
    }
