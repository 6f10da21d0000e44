use Rattle.std.proofs.Common.{ap, ℕ}
use Rattle.xsk_table.proofs.Placing.{lifts_store}
use Rattle.xsk_table.proofs.moves.write_second.Goals as goal

pub store-requires-clause-keeps : goal.store-requires-clause-keeps
store-requires-clause-keeps g c = rw c.requires.ask (lifts_store _ _ _ _ _ _ c.requires.two_words (ap (λ (t : ℕ × ℕ). t.1) c.pack-second.ensures) c.requires.can c.requires.flight c.requires.word.0)

pub returns-clause-told : goal.returns-clause-told
returns-clause-told g c = rw c.requires.ask at c.store.ensures.told
