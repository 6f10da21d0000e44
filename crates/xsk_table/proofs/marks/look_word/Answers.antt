use Rattle.xsk_table.specs.Layout.{mark}
use Rattle.xsk_table.proofs.Marking.{looks_keep}
use Rattle.xsk_table.proofs.marks.look_word.Goals as goal

pub look-requires-clause-keeps : goal.look-requires-clause-keeps
look-requires-clause-keeps g c = rw c.requires.ask (looks_keep _ _ _ _ _ c.requires.ready.0 c.requires.ready.1 c.requires.word.0)

pub returns-clause-told : goal.returns-clause-told
returns-clause-told g c = rw c.requires.ask at c.look.ensures.told

pub look-requires-clause-uncounted : goal.look-requires-clause-uncounted
look-requires-clause-uncounted g c config = (mark c.args.mark, c.requires.ready.0.legal.known, c.requires.word.0, tt)
