use Rattle.std.proofs.Common.{◌≡◌, map}
use Rattle.std.specs.Vec.{vec_items}
use Rattle.xsk_socket.specs.Regular.{map_in, numbered}
use Rattle.xsk_socket.proofs.numbering.number_maps.Given as goal

abbrev pub invariant-loop-port : goal.invariant-loop-port
invariant-loop-port l = map vec_items l.maps.items ≡ numbered l.port (map_in l.fn.layout)
