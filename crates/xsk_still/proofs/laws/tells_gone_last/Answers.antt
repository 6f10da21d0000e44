use Rattle.xsk_still.proofs.Telling.{tells_gone_last}
use Rattle.xsk_still.proofs.laws.tells_gone_last.Goals as goal

pub returns : goal.returns
returns c = tells_gone_last
