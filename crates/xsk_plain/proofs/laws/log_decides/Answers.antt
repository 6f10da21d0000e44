use Rattle.xsk_plain.proofs.Bare.{log_decides}
use Rattle.xsk_plain.proofs.laws.log_decides.Goals as goal

pub returns : goal.returns
returns c = log_decides
