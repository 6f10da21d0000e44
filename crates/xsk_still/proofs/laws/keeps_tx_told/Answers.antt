use Rattle.xsk_still.proofs.Keeping.{keeps_tx_told}
use Rattle.xsk_still.proofs.laws.keeps_tx_told.Goals as goal

pub returns : goal.returns
returns c = keeps_tx_told
