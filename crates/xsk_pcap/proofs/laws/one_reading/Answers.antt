use Rattle.xsk_pcap.proofs.CaptureLaws as laws
use Rattle.xsk_pcap.proofs.laws.one_reading.Goals as goal

pub returns : goal.returns
returns c = laws.one_reading
