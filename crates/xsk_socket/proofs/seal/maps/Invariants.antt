use Rattle.std.proofs.Common.{◌≡◌, map}
use Rattle.std.specs.Vec.{vec_items}
use Rattle.xsk_socket.specs.Bound.{map_on}
use Rattle.xsk_socket.specs.Regular.{numbered}
use Rattle.xsk_socket.proofs.seal.maps.Given as goal

abbrev pub invariant-loop-port : goal.invariant-loop-port
invariant-loop-port l = map vec_items l.maps.items ≡ numbered l.port (map_on l.sockets l.queues)
