use Rattle.std.proofs.Common.{◌≡◌}
use Rattle.xsk_socket.specs.Bound.{map_on}
use Rattle.xsk_socket.proofs.seal.port_map.Given as goal

abbrev pub invariant-loop-queue : goal.invariant-loop-queue
invariant-loop-queue l = l.map.items ≡ map_on l.sockets l.queue l.port
