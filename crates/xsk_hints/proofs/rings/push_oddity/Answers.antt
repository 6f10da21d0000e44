use Rattle.std.proofs.Common.{◌++◌, ap, ◌∙◌}
use Rattle.xsk_hints.specs.Told.{words_of, tally_line}
use Rattle.xsk_hints.proofs.Texts.{on_ok}
use Rattle.xsk_hints.proofs.rings.push_oddity.Goals as goal

pub returns : goal.returns
returns c lines notes =
    let text = c.args.text.now.items in
    let told = c.odd.ensures ∙ notes.odd c.args.ring c.requires.ring c.requires.side c.args.oddity in
    on_ok c.push_tally.result _ _
    (λ is. is ∙ ap (λ w. text ++ tally_line c.args.ring w c.odd.result) c.words.ensures ∙ ap (λ t. text ++ tally_line c.args.ring (words_of c.args.oddity) t) told)
    c.push_tally.ensures
