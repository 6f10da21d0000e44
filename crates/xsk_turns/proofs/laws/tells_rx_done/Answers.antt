use Rattle.xsk_turns.proofs.ReceivingLaws.{tells_rx_done}
use Rattle.xsk_turns.proofs.laws.tells_rx_done.Goals as goal

pub returns : goal.returns
returns c = tells_rx_done
