use Rattle.std.proofs.Common.{◌+◌, ◌++◌, drop, vec_capacity, ap, sym, ◌∙◌, arith}
use Rattle.xsk_pcap.specs.Written.{text_of}
use Rattle.xsk_pcap.proofs.Writing.{text_of-next, room_for_next}
use Rattle.xsk_pcap.proofs.capture.append_records.Goals as goal

pub append_record-requires-clause-room : goal.append_record-requires-clause-room
append_record-requires-clause-room c =
    room_for_next c.loop-i.text.items _ c.args.number c.loop-i.i (vec_capacity c.loop-i.text) c.args.list.now.packets c.get.result.now c.get.ensures c.loop-i.invariant.so_far c.loop-i.invariant.room

pub loop-i-preserved : goal.loop-i-preserved
loop-i-preserved c =
    let packets = c.args.list.now.packets in
    record {
      so_far =
          ap (λ t. t ++ text_of (c.args.number + (c.loop-i.i + 1)) (drop (c.loop-i.i + 1) packets)) c.append_record.ensures.text
          ∙ sym (text_of-next c.loop-i.text.items c.args.number c.loop-i.i packets c.get.result.now c.get.ensures)
          ∙ c.loop-i.invariant.so_far;
      room = omega (arith, c.loop-i.invariant.room, c.append_record.ensures.room);
    }
