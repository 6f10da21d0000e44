use Rattle.std.proofs.Common.{◌≡◌, ◌++◌, replicate}
use Rattle.xsk_plain.proofs.opening.add_zeros.Given as goal

abbrev pub invariant-loop : goal.invariant-loop
invariant-loop l = l.marks.items ≡ l.initial.marks.items ++ replicate l.counter 0
