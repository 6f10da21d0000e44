use Rattle.std.proofs.Common.{ℕ, ◌<◌}
use Rattle.xsk_model.specs.Config.{IsPairOf, pair_at}
use Rattle.xsk_model.proofs.config.pairs_in_order.Given as goal

abbrev pub invariant-loop-d : goal.invariant-loop-d
invariant-loop-d l = (k : ℕ) → k < l.d → IsPairOf l.queues k (pair_at l.pairs k)
