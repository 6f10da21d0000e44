use Rattle.xsk_still.proofs.Keeping.{keeps_rx_told}
use Rattle.xsk_still.proofs.laws.keeps_rx_told.Goals as goal

pub returns : goal.returns
returns c = keeps_rx_told
