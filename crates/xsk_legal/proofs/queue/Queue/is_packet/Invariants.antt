use Rattle.std.proofs.Common.{◌↔◌, drop}
use Rattle.xsk_legal.specs.Queue.{IsPacket}
use Rattle.xsk_legal.proofs.queue.Queue.is_packet.Given as goal

abbrev pub invariant-loop-i : goal.invariant-loop-i
invariant-loop-i l = IsPacket (drop l.i l.self.descs) (drop l.i l.items) ↔ IsPacket l.self.descs l.items
