use Rattle.xsk_pcap.proofs.CaptureLaws as laws
use Rattle.xsk_pcap.proofs.laws.one_refusal.Goals as goal

pub returns-clause-one : goal.returns-clause-one
returns-clause-one c = laws.one_refusal

pub returns-clause-no_capture : goal.returns-clause-no_capture
returns-clause-no_capture c = laws.refused_is_no_capture
