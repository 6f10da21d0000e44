use Rattle.xsk_cli.proofs.Going.{all_go_on}
use Rattle.xsk_cli.proofs.laws.all_go_on.Goals as goal

pub returns : goal.returns
returns c = all_go_on
