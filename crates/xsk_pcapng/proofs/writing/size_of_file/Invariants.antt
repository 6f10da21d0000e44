use Rattle.std.proofs.Common.{◌≡◌, ◌+◌, ◌*◌, length}
use Rattle.std.specs.List.{AllByRecursion}
use Rattle.xsk_pcapng.specs.Written.{size_of_blocks, IsShort}
use Rattle.xsk_pcapng.proofs.Appending.{all_from}
use Rattle.xsk_pcapng.proofs.writing.size_of_file.Given as goal

abbrev pub invariant-loop-i : goal.invariant-loop-i
invariant-loop-i l = record {
  size : l.size + size_of_blocks (all_from l.lists l.i) ≡ 28 + 20 * length l.lists + size_of_blocks (all_from l.lists 0);
  short : AllByRecursion IsShort (all_from l.lists l.i);
}
