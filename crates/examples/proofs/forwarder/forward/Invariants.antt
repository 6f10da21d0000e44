use Rattle.std.proofs.Common.{◌≡◌}
use Rattle.examples.proofs.forwarder.forward.Given as goal

abbrev pub invariant-loop : goal.invariant-loop
invariant-loop l = l.bench.room ≡ l.fn.bench.room
