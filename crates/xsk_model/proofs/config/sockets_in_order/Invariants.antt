use Rattle.std.proofs.Common.{ℕ, ◌<◌}
use Rattle.xsk_model.specs.Config.{IsSocketOf, socket_at}
use Rattle.xsk_model.proofs.config.sockets_in_order.Given as goal

abbrev pub invariant-loop-s : goal.invariant-loop-s
invariant-loop-s l = (k : ℕ) → k < l.s → IsSocketOf l.queues l.classes k (socket_at l.sockets k)
