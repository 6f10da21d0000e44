use Rattle.std.proofs.Common.{sym, ◌∙◌}
use Rattle.xsk_table.proofs.Moving.{front_number, emptied_some, emptied_none}
use Rattle.xsk_table.proofs.moves.empty_slot.Goals as goal

pub exchange-requires-clause-slot : goal.exchange-requires-clause-slot
exchange-requires-clause-slot c = let f = c.requires.front in
    ((f.0, front_number f.0 c.in-Some.number _ (f.1 ∙ sym c.number_of.ensures ∙ c.in-Some.is) f.2))

pub returns-in-Some-clause-told : goal.returns-in-Some-clause-told
returns-in-Some-clause-told c f number first = emptied_some f c.in-Some.number _ _ _ (number ∙ sym c.number_of.ensures ∙ c.in-Some.is) first c.exchange.ensures.was c.exchange.ensures.now

pub returns-in-None-clause-told : goal.returns-in-None-clause-told
returns-in-None-clause-told c f number first = emptied_none f _ (number ∙ sym c.number_of.ensures ∙ c.in-None.is)
