use Rattle.xsk_table.proofs.Releasing.{releases_keep}
use Rattle.xsk_table.proofs.steps.write_consumer.Goals as goal

pub store-requires-clause-keeps : goal.store-requires-clause-keeps
store-requires-clause-keeps g c = rw c.requires.ask (releases_keep _ _ _ _ _ _ c.requires.ready.0 c.requires.ready.1 c.requires.word.0 c.requires.new)

pub returns-clause-told : goal.returns-clause-told
returns-clause-told g c = rw c.requires.ask at c.store.ensures.told
