use Rattle.std.proofs.Common.{◌≡◌, ◌+◌, ◌-◌, ◌++◌}
use Rattle.std.specs.Prelude.{filter}
use Rattle.xsk_socket.specs.Regular.{numbered}
use Rattle.xsk_socket.specs.Sealed.{is_on}
use Rattle.xsk_socket.specs.Setup.{socket_at}
use Rattle.xsk_socket.proofs.seal.add_bound.Given as goal

abbrev pub invariant-loop-index : goal.invariant-loop-index
invariant-loop-index l = l.map.items ≡ l.initial.map.items
    ++ filter (λ v. is_on l.fn.place.port l.fn.place.queue (socket_at l.fn.sockets (v - 1)).bound) (numbered l.index (λ s. s + 1))
