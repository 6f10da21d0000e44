use Rattle.std.proofs.Common.{◌≡◌, ◌+◌, ◌≤◌, ◌++◌, length}
use Rattle.xsk_umem.proofs.batch.Batch.append.Given as goal

-- what was moved and what is left are together all that there was
abbrev pub invariant-loop : goal.invariant-loop
invariant-loop l = (l.self ++ l.other ≡ l.initial.self ++ l.initial.other) × (length l.other + l.counter ≡ length l.initial.other) × (length l.self + length l.other ≤ 32)
