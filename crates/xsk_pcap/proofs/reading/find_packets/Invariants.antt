use Rattle.std.proofs.Common.{length}
use Rattle.xsk_pcap.proofs.Loops.{Finding}
use Rattle.xsk_pcap.proofs.reading.find_packets.Given as goal

abbrev pub invariant-loop-rest : goal.invariant-loop-rest
invariant-loop-rest l = Finding l.order l.bytes l.rest l.lacks_room l.spans.items

abbrev pub decreases-loop-rest : goal.decreases-loop-rest
decreases-loop-rest l = length l.rest
