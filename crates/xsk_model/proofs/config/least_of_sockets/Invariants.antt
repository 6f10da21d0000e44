use Rattle.std.proofs.Common.{◌≡◌, drop}
use Rattle.std.specs.List.{flat_map}
use Rattle.xsk_model.specs.Config.{socket_sizes, least}
use Rattle.xsk_model.proofs.config.least_of_sockets.Given as goal

-- the rest leads from the size so far to the answer
abbrev pub invariant-loop-socket : goal.invariant-loop-socket
invariant-loop-socket l = least l.size (flat_map socket_sizes (drop l.socket-index l.sockets)) ≡ least l.start (flat_map socket_sizes l.sockets)
