use Rattle.xsk_cli.proofs.Journals.{runs_are_legal}
use Rattle.xsk_cli.proofs.laws.runs_are_legal.Goals as goal

pub returns : goal.returns
returns c = runs_are_legal
