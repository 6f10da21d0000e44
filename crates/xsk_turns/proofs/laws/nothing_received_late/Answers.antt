use Rattle.xsk_turns.proofs.ReceivingLaws.{nothing_received_late}
use Rattle.xsk_turns.proofs.laws.nothing_received_late.Goals as goal

pub returns : goal.returns
returns c = nothing_received_late
