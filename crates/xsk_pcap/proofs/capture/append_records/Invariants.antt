use Rattle.std.proofs.Common.{◌≡◌, ◌+◌, ◌≤◌, ◌++◌, length, drop, vec_capacity}
use Rattle.xsk_pcap.specs.Written.{text_of}
use Rattle.xsk_pcap.proofs.capture.append_records.Given as goal

abbrev pub invariant-loop-i : goal.invariant-loop-i
invariant-loop-i l = record {
  so_far : l.text.items ++ text_of (l.number + l.i) (drop l.i l.list.packets) ≡ l.fn.text.items ++ text_of l.number l.list.packets;
  room : length (l.fn.text.items ++ text_of l.number l.list.packets) ≤ vec_capacity l.text;
}
