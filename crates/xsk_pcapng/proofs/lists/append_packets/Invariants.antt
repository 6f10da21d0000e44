use Rattle.std.proofs.Common.{◌≡◌, ◌≤◌, ◌++◌, length}
use Rattle.std.specs.List.{concat}
use Rattle.xsk_pcapng.proofs.Listing.{packets_from}
use Rattle.xsk_pcapng.proofs.lists.append_packets.Given as goal

abbrev pub invariant-loop-i : goal.invariant-loop-i
invariant-loop-i l = record {
  so_far : l.list.packets ++ packets_from l.bytes l.found l.port l.i ≡ l.fn.list.packets ++ packets_from l.bytes l.found l.port 0;
  packets : length (packets_from l.bytes l.found l.port l.i) ≤ l.list.spare_packets;
  bytes : length (concat (packets_from l.bytes l.found l.port l.i)) ≤ l.list.spare_bytes;
}
