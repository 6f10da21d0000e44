use Rattle.std.proofs.Common.{ℕ, [], ◌∷◌, ap, ◌∙◌}
use Rattle.xsk_table.specs.Layout.{producer}
use Rattle.xsk_table.proofs.Placing.{lifts_look}
use Rattle.xsk_table.proofs.moves.lift.Goals as goal

pub look-requires-clause-keeps : goal.look-requires-clause-keeps
look-requires-clause-keeps g c = rw c.requires.ask (lifts_look _ _ _ _ _ c.requires.one_word c.requires.can c.requires.flight)

pub returns-clause-told : goal.returns-clause-told
returns-clause-told g c = rw c.requires.ask at c.look.ensures.told

pub look-requires-clause-uncounted : goal.look-requires-clause-uncounted
look-requires-clause-uncounted g c config = let can = c.requires.can in (producer c.args.ring, can.ring, c.requires.word.0, can.one ∙ ap (λ (w : ℕ). w ∷ []) can.role)
