use Rattle.std.proofs.Common.{ℕ, ◌<◌}
use Rattle.xsk_legal.specs.Setting.{IsCleared}
use Rattle.xsk_legal.proofs.marked.Marked.are_cleared.Given as goal

abbrev pub invariant-loop-index : goal.invariant-loop-index
invariant-loop-index l = (k : ℕ) → k < l.index → IsCleared l.config l.self l.port k
