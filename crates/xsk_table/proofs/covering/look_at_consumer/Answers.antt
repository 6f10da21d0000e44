use Rattle.std.proofs.Common.{ℕ, [], ◌∷◌, ap, ◌∙◌}
use Rattle.xsk_table.specs.Layout.{consumer}
use Rattle.xsk_table.proofs.Peeking.{gives_keep}
use Rattle.xsk_table.proofs.covering.look_at_consumer.Goals as goal

pub look-requires-clause-keeps : goal.look-requires-clause-keeps
look-requires-clause-keeps g c = rw c.requires.ask (gives_keep _ _ _ _ _ c.requires.ready.0 c.requires.ready.1 c.requires.items)

pub returns-clause-told : goal.returns-clause-told
returns-clause-told g c = rw c.requires.ask at c.look.ensures.told

pub look-requires-clause-uncounted : goal.look-requires-clause-uncounted
look-requires-clause-uncounted g c config = let ready = c.requires.ready.0 in (consumer c.args.ring, ready.legal.known, c.requires.word.0, ready.one ∙ ap (λ (w : ℕ). w ∷ []) ready.legal.role)
