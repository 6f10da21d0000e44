use Rattle.xsk_cli.proofs.Going.{class_goes_on}
use Rattle.xsk_cli.proofs.laws.class_goes_on.Goals as goal

pub returns : goal.returns
returns c = class_goes_on
