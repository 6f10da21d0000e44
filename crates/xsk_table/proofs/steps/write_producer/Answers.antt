use Rattle.xsk_table.proofs.Submitting.{submits_keep}
use Rattle.xsk_table.proofs.steps.write_producer.Goals as goal

pub store-requires-clause-keeps : goal.store-requires-clause-keeps
store-requires-clause-keeps g c = rw c.requires.ask (submits_keep _ _ _ _ _ _ _ c.requires.ready c.requires.flight c.requires.word.0 c.requires.new)

pub returns-clause-told : goal.returns-clause-told
returns-clause-told g c = (rw c.requires.ask at c.store.ensures.told) _ c.requires.flight
