use Rattle.xsk_rings.proofs.Telling.{may_give_served}
use Rattle.xsk_shared_ends.proofs.Standing.{may_ask, is_reply, goes_on}
use Rattle.xsk_shared_ends.proofs.serving.serve.Goals as goal

pub serve-requires-clause-may : goal.serve-requires-clause-may
serve-requires-clause-may c = may_ask _ _ _ c.requires.belongs c.requires.at

pub returns-clause-kind : goal.returns-clause-kind
returns-clause-kind c = is_reply _ _ _ _ c.serve.ensures.served

pub returns-clause-goes_on : goal.returns-clause-goes_on
returns-clause-goes_on c = goes_on _ _ _ _ c.serve.ensures.served

pub returns-clause-told : goal.returns-clause-told
returns-clause-told c = (may_give_served _ _ _ _ c.serve.ensures.served).1
