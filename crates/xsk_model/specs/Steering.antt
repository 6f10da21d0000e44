-- Where packets go, by their bytes and by the numbers of a configuration. That a sum of a packet's first bytes chooses its
-- queue and its class is this project's own: it stands for the hash by which a device spreads packets over its queues, and
-- for a program's choice of a socket. So are the pairs of ports.
use Rattle.std.specs.Prelude.{ℕ, ◌+◌, ◌-◌, ◌*◌, ◌/◌, ◌%◌, ◌==◌, if◌then◌else◌, List, take, sum}
use Rattle.xsk_umem.specs.Geometry.{payload_of}
use Rattle.xsk_model.specs.Config.{Config, classes_of}
use Rattle.xsk_model.specs.Limits.{most_fragments, ethernet_addresses, ethernet_header}

-- ---- packets

-- the queue of a packet: the sum of its first 12 bytes, modulo the number of queues
abbrev pub packet_queue : ℕ → List ℕ → ℕ
packet_queue queues packet = sum (take ethernet_addresses packet) % queues

-- its class: the sum of its first 14 bytes, modulo the number of classes
abbrev pub packet_class : ℕ → List ℕ → ℕ
packet_class classes packet = sum (take ethernet_header packet) % classes

-- the cell to which it is redirected on a queue: that of its class
abbrev pub packet_cell : ℕ → ℕ → List ℕ → ℕ
packet_cell classes queue packet = queue * classes + packet_class classes packet

-- the most bytes of a packet: those of 18 frames, or without XDP_USE_SG those of one
abbrev pub packet_limit : Config → ℕ
packet_limit c = (if c.sg then most_fragments else 1) * payload_of c.geometry

-- ---- ports

-- the port with which a port is paired: ports 0 and 1 are a pair, and so are 2 and 3
abbrev pub paired_port : ℕ → ℕ
paired_port port = if port % 2 == 0 then port + 1 else port - 1

-- in a regular configuration the driver of a port's queue, and the socket of a class there: pairs are numbered port by
-- port, sockets pair by pair
abbrev pub driver_on : Config → ℕ → ℕ → ℕ
driver_on c port queue = port * c.queues + queue

abbrev pub socket_on : Config → ℕ → ℕ → ℕ → ℕ
socket_on c port queue class = driver_on c port queue * classes_of c + class

-- ---- applications

-- the ports of an application, one on each of its sides, and its queue: applications are numbered by pairs of ports, and
-- then by queue
abbrev pub port_on : Config → ℕ → ℕ → ℕ
port_on c app side = 2 * (app / c.queues) + side

abbrev pub queue_on : Config → ℕ → ℕ
queue_on c app = app % c.queues
