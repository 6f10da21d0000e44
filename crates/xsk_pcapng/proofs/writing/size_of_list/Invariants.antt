use Rattle.std.proofs.Common.{◌≡◌, ◌+◌, drop}
use Rattle.xsk_pcapng.specs.Written.{size_of_blocks}
use Rattle.xsk_pcapng.proofs.writing.size_of_list.Given as goal

abbrev pub invariant-loop-i : goal.invariant-loop-i
invariant-loop-i l = l.size + size_of_blocks (drop l.i l.list.packets) ≡ size_of_blocks l.list.packets
