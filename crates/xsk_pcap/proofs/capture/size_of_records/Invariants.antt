use Rattle.std.proofs.Common.{◌≡◌, ◌+◌, ◌*◌, length, drop}
use Rattle.std.specs.List.{concat}
use Rattle.xsk_pcap.proofs.capture.size_of_records.Given as goal

abbrev pub invariant-loop-i : goal.invariant-loop-i
invariant-loop-i l = l.size + 16 * length (drop l.i l.list.packets) + length (concat (drop l.i l.list.packets)) ≡ 16 * length l.list.packets + length (concat l.list.packets)
