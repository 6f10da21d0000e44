use Rattle.std.proofs.Common.{◌+◌, ◌∙◌}
use Rattle.xsk_table.proofs.Moving.{desc_one, desc_two, one_or_two, some_words}
use Rattle.xsk_table.proofs.moves.read_desc.Goals as goal

pub returns-then-entry_words-eq2-clause-told : goal.returns-then-entry_words-eq2-clause-told
returns-then-entry_words-eq2-clause-told c x left flies addr lawful =
    let t = c.read_second-second.ensures.told x left flies in
    (t.0, c.unpack.ensures ∙ desc_two c.args.board.now.setup.config.geometry c.args.ring x _ _ addr t.1 lawful)

pub returns-else-entry_words-eq2-clause-told : goal.returns-else-entry_words-eq2-clause-told
returns-else-entry_words-eq2-clause-told c x left flies addr lawful =
    (c.settle.ensures.told x left flies, desc_one c.args.board.now.setup.config.geometry c.args.ring x _ (one_or_two c.args.ring (λ two. c.if-entry_words-eq2.false (c.entry_words.ensures ∙ two))) addr lawful)

pub settle-requires-clause-word : goal.settle-requires-clause-word
settle-requires-clause-word c =
    let at = c.requires.flight.4 in
    (some_words c.args.ring c.args.word _ c.requires.within.0, (c.args.board.now.setup.first + at.0, at.2))
