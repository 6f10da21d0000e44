use Rattle.xsk_cli.proofs.Going.{expected_goes_on}
use Rattle.xsk_cli.proofs.laws.expected_goes_on.Goals as goal

pub returns : goal.returns
returns c = expected_goes_on
