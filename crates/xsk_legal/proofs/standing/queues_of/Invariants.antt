use Rattle.std.proofs.Common.{◌≡◌, length}
use Rattle.xsk_legal.proofs.Opening.{AllFresh}
use Rattle.xsk_legal.proofs.standing.queues_of.Given as goal

abbrev pub invariant-loop-socket : goal.invariant-loop-socket
invariant-loop-socket l = (length l.queues.items ≡ l.socket) × AllFresh l.config l.who l.queues.items
