use Rattle.xsk_cli.proofs.Going.{all_go_back}
use Rattle.xsk_cli.proofs.laws.all_go_back.Goals as goal

pub returns : goal.returns
returns c = all_go_back
