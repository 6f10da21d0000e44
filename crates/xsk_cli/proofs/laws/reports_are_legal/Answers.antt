use Rattle.xsk_cli.proofs.Journals.{reports_are_legal}
use Rattle.xsk_cli.proofs.laws.reports_are_legal.Goals as goal

pub returns : goal.returns
returns c = reports_are_legal
