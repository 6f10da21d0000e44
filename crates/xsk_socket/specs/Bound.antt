-- The parts of a configuration, by the sockets that are bound.
use Rattle.std.specs.Prelude.{ℕ, ◌+◌, ◌-◌, List, filter, length}
use Rattle.std.specs.List.{flat_map, range_with_len}
use Rattle.xsk_model.specs.declared.config.SocketInfo.{SocketInfo}
use Rattle.xsk_socket.specs.declared.socket.Socket.{Socket}
use Rattle.xsk_socket.specs.Regular.{numbered}
use Rattle.xsk_socket.specs.Sealed.{is_on, placed}
use Rattle.xsk_socket.specs.Setup.{socket_at}

abbrev pub info_in : Socket → SocketInfo
info_in x = record { port = (placed x.bound).port; queue = (placed x.bound).queue; rx = x.rx; tx = x.tx }

abbrev pub bound_in : List Socket → ℕ → ℕ → List ℕ
bound_in sockets port queue = filter (λ v. is_on port queue (socket_at sockets (v - 1)).bound) (numbered (length sockets) (λ s. s + 1))

abbrev pub map_on : List Socket → ℕ → ℕ → List ℕ
map_on sockets queues port = flat_map (bound_in sockets port) (range_with_len 0 queues)
