use Rattle.std.proofs.Common.{ℕ, ◌<◌, slice_index_or}
use Rattle.xsk_model.specs.declared.config.SocketInfo.{SocketInfo}
use Rattle.xsk_model.specs.Config.{IsBound}
use Rattle.xsk_model.proofs.parts.are_bound.Given as goal

abbrev pub invariant-loop-k : goal.invariant-loop-k
invariant-loop-k l = (i : ℕ) (none : SocketInfo) → i < l.k → IsBound l.ports l.queues l.pairs (slice_index_or l.sockets i none)
