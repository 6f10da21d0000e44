use Rattle.xsk_cli.proofs.Going.{bounced_goes_back}
use Rattle.xsk_cli.proofs.laws.bounced_goes_back.Goals as goal

pub returns : goal.returns
returns c = bounced_goes_back
