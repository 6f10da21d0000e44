use Rattle.xsk_cli.proofs.Unique.{one_outcome}
use Rattle.xsk_cli.proofs.laws.one_outcome.Goals as goal

pub returns : goal.returns
returns c = one_outcome
