use Rattle.xsk_pcap.proofs.CaptureLaws as laws
use Rattle.xsk_pcap.proofs.laws.written_reads_back.Goals as goal

pub returns : goal.returns
returns c = laws.written_reads_back
