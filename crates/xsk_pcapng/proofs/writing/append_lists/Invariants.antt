use Rattle.std.proofs.Common.{◌≡◌, ◌+◌, ◌≤◌, ◌++◌, length, drop}
use Rattle.std.specs.Prelude.{vec_capacity}
use Rattle.std.specs.List.{concat, AllByRecursion}
use Rattle.xsk_pcapng.specs.Written.{lists_blocks, packets_of, size_of_blocks, IsShort}
use Rattle.xsk_pcapng.proofs.Appending.{all_from}
use Rattle.xsk_pcapng.proofs.writing.append_lists.Given as goal

abbrev pub invariant-loop-i : goal.invariant-loop-i
invariant-loop-i l = record {
  so_far : l.text.items ++ concat (lists_blocks l.i l.number (packets_of (drop l.i l.lists))) ≡ l.fn.text.items ++ concat (lists_blocks 0 0 (packets_of l.lists));
  short : AllByRecursion IsShort (all_from l.lists l.i);
  number : l.number + length (all_from l.lists l.i) ≡ length (all_from l.lists 0);
  room : length l.text.items + size_of_blocks (all_from l.lists l.i) ≤ vec_capacity l.text;
}
