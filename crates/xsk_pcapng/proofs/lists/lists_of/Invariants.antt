use Rattle.std.proofs.Common.{◌≡◌, map}
use Rattle.xsk_pcapng.specs.Pcapng.{lists_of}
use Rattle.xsk_pcapng.specs.Steps.{arrival_in}
use Rattle.xsk_pcapng.specs.Written.{packets_of}
use Rattle.xsk_pcapng.proofs.lists.lists_of.Given as goal

abbrev pub invariant-loop-port : goal.invariant-loop-port
invariant-loop-port l = packets_of l.lists.items ≡ lists_of l.port (map (arrival_in l.bytes) l.found)
