use Rattle.std.proofs.Common.{◌≡◌}
use Rattle.xsk_socket.specs.Regular.{socket_in, numbered}
use Rattle.xsk_socket.proofs.numbering.number_sockets.Given as goal

abbrev pub invariant-loop-number : goal.invariant-loop-number
invariant-loop-number l = l.sockets.items ≡ numbered l.number (socket_in l.fn.layout)
