use Rattle.xsk_pcapng.proofs.WrittenLaw as laws
use Rattle.xsk_pcapng.proofs.laws.written_reads_back.Goals as goal

pub returns : goal.returns
returns c = laws.written_reads_back
