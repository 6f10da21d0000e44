use Rattle.xsk_table.proofs.Ending.{ends}
use Rattle.xsk_table.proofs.closing.finish.Goals as goal

pub returns-clause-rests : goal.returns-clause-rests
returns-clause-rests c = ends _ _ _ _ _ c.requires.all c.requires.rests c.close_with.ensures.values
