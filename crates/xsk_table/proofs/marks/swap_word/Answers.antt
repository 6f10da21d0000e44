use Rattle.xsk_table.proofs.Marking.{swaps_keep}
use Rattle.xsk_table.proofs.marks.swap_word.Goals as goal

pub swap-requires-clause-keeps : goal.swap-requires-clause-keeps
swap-requires-clause-keeps g c = rw c.requires.ask (swaps_keep _ _ _ _ _ c.requires.ready.0 c.requires.ready.1 c.requires.word.0)

pub returns-clause-told : goal.returns-clause-told
returns-clause-told g c = rw c.requires.ask at c.swap.ensures.told
