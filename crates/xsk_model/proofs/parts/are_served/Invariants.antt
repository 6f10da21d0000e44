use Rattle.std.proofs.Common.{ℕ, ◌<◌, slice_index_or}
use Rattle.xsk_model.specs.declared.config.PairInfo.{PairInfo}
use Rattle.xsk_model.specs.Config.{IsServed}
use Rattle.xsk_model.proofs.parts.are_served.Given as goal

abbrev pub invariant-loop-k : goal.invariant-loop-k
invariant-loop-k l = (i : ℕ) (none : PairInfo) → i < l.k → IsServed l.sockets (slice_index_or l.pairs i none)
