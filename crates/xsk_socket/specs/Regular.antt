-- The regular configuration of a layout: all is numbered by port, queue and class.
use Rattle.std.specs.Prelude.{ℕ, ◌+◌, ◌*◌, ◌/◌, ◌%◌, ◌==◌, Bool, false, List, map, Option, Some, None, if◌then◌else◌}
use Rattle.std.specs.List.{range_with_len}
use Rattle.xsk_model.specs.Config.{Config}
use Rattle.xsk_model.specs.declared.config.SocketInfo.{SocketInfo}
use Rattle.xsk_model.specs.declared.config.PairInfo.{PairInfo}
use Rattle.xsk_socket.specs.declared.layout.Layout.{Layout}
use Rattle.xsk_socket.specs.Layout.{cells_in, geometry_of, pairs_in, sockets_in}

-- a list by number: entry i, counted from 0, of n
abbrev pub numbered : {A : Type 0} → ℕ → (ℕ → A) → List A
numbered n entry = map entry (range_with_len 0 n)

abbrev pub pair_in : Layout → ℕ → PairInfo
pair_in l d = record { port = d / l.queues; queue = d % l.queues; fill = l.fill; comp = l.comp }

-- the sockets of pair 0 come first, then those of pair 1, and so on
abbrev pub socket_in : Layout → ℕ → SocketInfo
socket_in l s = record { port = (s / l.sockets) / l.queues; queue = (s / l.sockets) % l.queues; rx = Some l.rx; tx = Some l.tx }

abbrev pub is_left_empty : Option ℕ → ℕ → Bool
is_left_empty None index = false
is_left_empty (Some cell) index = cell == index

-- a port's own sockets in order, counted from 1, but for the cell that is left empty
abbrev pub cell_in : Layout → ℕ → ℕ → ℕ
cell_in l port index = if is_left_empty l.empty index then 0 else port * cells_in l + index + 1

abbrev pub map_in : Layout → ℕ → List ℕ
map_in l port = numbered (cells_in l) (cell_in l port)

abbrev pub regular_of : Layout → Config
regular_of l = record {
  geometry = geometry_of l;
  ports = l.ports;
  queues = l.queues;
  sockets = numbered (sockets_in l) (socket_in l);
  pairs = numbered (pairs_in l) (pair_in l);
  cells = numbered l.ports (map_in l);
  sg = l.sg;
  wakeup = l.wakeup;
  closing = l.close;
}
