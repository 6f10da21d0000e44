use Rattle.xsk_cli.proofs.Going.{none_bounces}
use Rattle.xsk_cli.proofs.laws.none_bounces.Goals as goal

pub returns : goal.returns
returns c = none_bounces
