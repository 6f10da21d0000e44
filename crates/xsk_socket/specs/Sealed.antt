-- The configuration of a setup, by its accepted calls (af_xdp.rst, "XDP_SHARED_UMEM bind flag"). Which cells a port's
-- XSKMAP has is this project's own.
use Rattle.std.specs.Prelude.{ℕ, ◌+◌, ◌-◌, ◌==◌, ◌&&◌, Bool, false, List, filter, Option, Some, None, unwrap_or}
use Rattle.std.specs.List.{flat_map, range_with_len}
use Rattle.xsk_umem.specs.Geometry.{Geometry}
use Rattle.xsk_model.specs.Config.{Config}
use Rattle.xsk_model.specs.declared.config.SocketInfo.{SocketInfo}
use Rattle.xsk_socket.specs.declared.socket.Binding.{Binding}
use Rattle.xsk_socket.specs.declared.socket.RingKind.TheVariants.{Rx, Tx}
use Rattle.xsk_socket.specs.Refusals.{has_flag}
use Rattle.xsk_socket.specs.Regular.{numbered}
use Rattle.xsk_socket.specs.Setup.{Made, flags_of, pairs_of, place_of, ring_of, sockets_of}

abbrev pub placed : Option Binding → Binding
placed place = unwrap_or place (record { port = 0; queue = 0 })

-- a socket with the rings that it was given, where it was bound
abbrev pub info_of : List Made → ℕ → SocketInfo
info_of calls s = record {
  port = (placed (place_of s calls)).port;
  queue = (placed (place_of s calls)).queue;
  rx = ring_of Rx s calls;
  tx = ring_of Tx s calls;
}

abbrev pub is_on : ℕ → ℕ → Option Binding → Bool
is_on port queue None = false
is_on port queue (Some place) = place.port == port && place.queue == queue

-- the sockets on a port's queue by number, counted from 1
abbrev pub on_queue : List Made → ℕ → ℕ → List ℕ
on_queue calls port queue = filter (λ v. is_on port queue (place_of (v - 1) calls)) (numbered (sockets_of calls) (λ s. s + 1))

-- the sockets on a port, queue by queue
abbrev pub on_port : List Made → ℕ → ℕ → List ℕ
on_port calls queues port = flat_map (on_queue calls port) (range_with_len 0 queues)

abbrev pub is_set : Option ℕ → ℕ → Bool
is_set flags flag = has_flag (unwrap_or flags 0) flag

abbrev pub sealed : Geometry → ℕ → ℕ → List Made → Config
sealed g ports queues calls = record {
  geometry = g;
  ports = ports;
  queues = queues;
  sockets = numbered (sockets_of calls) (info_of calls);
  pairs = pairs_of calls;
  cells = numbered ports (on_port calls queues);
  sg = is_set (flags_of calls) 16;
  wakeup = is_set (flags_of calls) 8;
  closing = None;
}
