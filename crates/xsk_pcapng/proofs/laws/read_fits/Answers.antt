use Rattle.xsk_pcapng.proofs.Fits as laws
use Rattle.xsk_pcapng.proofs.laws.read_fits.Goals as goal

pub returns : goal.returns
returns c = laws.read_fits
