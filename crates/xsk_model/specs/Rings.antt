-- The rings of a configuration: who puts entries into each and who takes them (af_xdp.rst, "Rings": the application
-- produces FILL and TX and consumes RX and COMPLETION, the driver the other way round), and the place of each ring in
-- a list of all. The callers' numbers and the order of the places are this project's own.
use Rattle.std.specs.Prelude.{ℕ, suc, ◌+◌, ◌*◌, ◌/◌, Bool, false, ◌&&◌, ◌==◌, if◌then◌else◌, List, [], ◌∷◌, length}
use Rattle.xsk_model.specs.Config.{Config, socket_at, pair_at}
use Rattle.xsk_model.specs.declared.config.PairInfo.{PairInfo}
use Rattle.xsk_model.specs.declared.call.Ring.{Ring}
use Rattle.xsk_model.specs.declared.call.Ring.TheVariants.{Fill, Comp, Rx, Tx}

-- whether two rings are one
abbrev pub is_ring : Ring → Ring → Bool
is_ring (Fill d) (Fill e) = d == e
is_ring (Comp d) (Comp e) = d == e
is_ring (Rx s) (Rx t) = s == t
is_ring (Tx s) (Tx t) = s == t
is_ring _ _ = false

-- FILL by pair, COMPLETION by pair, RX by socket, TX by socket; a ring that a socket hasn't got leaves its place unused
abbrev pub place : Config → Ring → ℕ
place c (Fill d) = d
place c (Comp d) = length c.pairs + d
place c (Rx s) = 2 * length c.pairs + s
place c (Tx s) = 2 * length c.pairs + length c.sockets + s

-- the number of places
abbrev pub places_of : Config → ℕ
places_of c = 2 * length c.pairs + 2 * length c.sockets

-- the number of the pair that a port's queue has
abbrev pub pair_on : List PairInfo → ℕ → ℕ → ℕ
pair_on [] port queue = 0
pair_on (pair ∷ pairs) port queue = if pair.port == port && pair.queue == queue then 0 else suc (pair_on pairs port queue)

-- the number of the application of a port's queue: one for the queue of two paired ports
abbrev pub application_on : Config → ℕ → ℕ → ℕ
application_on c port queue = (port / 2) * c.queues + queue

-- the port and the queue of a ring
abbrev pub port_of : Config → Ring → ℕ
port_of c (Fill d) = (pair_at c.pairs d).port
port_of c (Comp d) = (pair_at c.pairs d).port
port_of c (Rx s) = (socket_at c.sockets s).port
port_of c (Tx s) = (socket_at c.sockets s).port

abbrev pub queue_of : Config → Ring → ℕ
queue_of c (Fill d) = (pair_at c.pairs d).queue
queue_of c (Comp d) = (pair_at c.pairs d).queue
queue_of c (Rx s) = (socket_at c.sockets s).queue
queue_of c (Tx s) = (socket_at c.sockets s).queue

-- the driver of a ring, a caller with the number of its pair
abbrev pub driver_of : Config → Ring → ℕ
driver_of c (Fill d) = d
driver_of c (Comp d) = d
driver_of c (Rx s) = pair_on c.pairs (port_of c (Rx s)) (queue_of c (Rx s))
driver_of c (Tx s) = pair_on c.pairs (port_of c (Tx s)) (queue_of c (Tx s))

-- the caller that an application is: the applications' numbers follow those of the drivers
abbrev pub caller_of : Config → ℕ → ℕ
caller_of c app = length c.pairs + app

-- the application of a ring, as a caller
abbrev pub app_of : Config → Ring → ℕ
app_of c r = caller_of c (application_on c (port_of c r) (queue_of c r))

-- the one caller that may reserve and submit on a ring
abbrev pub producer : Config → Ring → ℕ
producer c (Fill d) = app_of c (Fill d)
producer c (Comp d) = driver_of c (Comp d)
producer c (Rx s) = driver_of c (Rx s)
producer c (Tx s) = app_of c (Tx s)

-- the one caller that may peek and release on it
abbrev pub consumer : Config → Ring → ℕ
consumer c (Fill d) = driver_of c (Fill d)
consumer c (Comp d) = app_of c (Comp d)
consumer c (Rx s) = app_of c (Rx s)
consumer c (Tx s) = driver_of c (Tx s)
