use Rattle.std.proofs.Common.{length}
use Rattle.xsk_pcapng.proofs.Walk.{Walking}
use Rattle.xsk_pcapng.proofs.reading.find_packets.Given as goal

abbrev pub invariant-loop-rest : goal.invariant-loop-rest
invariant-loop-rest l = Walking l.order l.ports l.bytes l.rest l.lacks_room l.interfaces l.found.items

abbrev pub decreases-loop-rest : goal.decreases-loop-rest
decreases-loop-rest l = length l.rest
