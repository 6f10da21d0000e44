use Rattle.std.proofs.Common.{◌≡◌, ◌+◌, ◌≤◌, ◌++◌, length, drop}
use Rattle.std.specs.Prelude.{vec_capacity}
use Rattle.std.specs.List.{concat}
use Rattle.xsk_pcapng.specs.Written.{list_blocks, size_of_blocks}
use Rattle.xsk_pcapng.proofs.writing.append_packets.Given as goal

abbrev pub invariant-loop-i : goal.invariant-loop-i
invariant-loop-i l = record {
  so_far : l.text.items ++ concat (list_blocks l.interface (l.number + l.i) (drop l.i l.list.packets)) ≡ l.fn.text.items ++ concat (list_blocks l.interface l.number l.list.packets);
  size : length l.text.items + size_of_blocks (drop l.i l.list.packets) ≡ length l.fn.text.items + size_of_blocks l.list.packets;
  capacity : vec_capacity l.fn.text ≤ vec_capacity l.text;
}
