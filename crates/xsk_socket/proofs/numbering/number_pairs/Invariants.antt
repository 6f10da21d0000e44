use Rattle.std.proofs.Common.{◌≡◌}
use Rattle.xsk_socket.specs.Regular.{pair_in, numbered}
use Rattle.xsk_socket.proofs.numbering.number_pairs.Given as goal

abbrev pub invariant-loop-number : goal.invariant-loop-number
invariant-loop-number l = l.pairs.items ≡ numbered l.number (pair_in l.fn.layout)
