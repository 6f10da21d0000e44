use Rattle.xsk_table.proofs.Peeking.{peeks_keep}
use Rattle.xsk_table.proofs.steps.look_items.Goals as goal

pub look_counted-requires-clause-keeps : goal.look_counted-requires-clause-keeps
look_counted-requires-clause-keeps g c = rw c.requires.ask (peeks_keep _ _ _ _ _ c.requires.ready.0 c.requires.ready.1 c.requires.word.0)

pub returns-clause-told : goal.returns-clause-told
returns-clause-told g c = rw (← c.requires.ask) c.look_counted.ensures.told
