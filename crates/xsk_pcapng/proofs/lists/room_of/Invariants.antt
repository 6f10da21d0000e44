use Rattle.std.proofs.Common.{◌≡◌, ◌+◌, length}
use Rattle.std.specs.List.{concat}
use Rattle.xsk_pcapng.proofs.Listing.{packets_from}
use Rattle.xsk_pcapng.proofs.lists.room_of.Given as goal

abbrev pub invariant-loop-i : goal.invariant-loop-i
invariant-loop-i l = record {
  packets : l.room.packets + length (packets_from l.bytes l.found l.port l.i) ≡ length (packets_from l.bytes l.found l.port 0);
  bytes : l.room.bytes + length (concat (packets_from l.bytes l.found l.port l.i)) ≡ length (concat (packets_from l.bytes l.found l.port 0));
}
