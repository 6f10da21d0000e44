use Rattle.xsk_pcapng.proofs.FileLaws as laws
use Rattle.xsk_pcapng.proofs.laws.one_reading.Goals as goal

pub returns : goal.returns
returns c = laws.one_reading
