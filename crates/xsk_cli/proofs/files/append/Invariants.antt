use Rattle.std.proofs.Common.{◌≡◌, ◌≤◌, ◌++◌, drop, length}
use Rattle.std.specs.List.{concat}
use Rattle.xsk_cli.proofs.files.append.Given as goal

abbrev pub invariant-loop-i : goal.invariant-loop-i
invariant-loop-i l = record {
  so_far : l.all.packets ++ drop l.i l.list.packets ≡ l.fn.all.packets ++ l.list.packets;
  gaps : l.all.gaps ≡ l.fn.all.gaps;
  packets : length (drop l.i l.list.packets) ≤ l.all.spare_packets;
  bytes : length (concat (drop l.i l.list.packets)) ≤ l.all.spare_bytes;
}
