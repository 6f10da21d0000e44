use Rattle.std.proofs.Common.{◌≡◌, slice_index_or, ap, arith, ◌∙◌}
use Rattle.std.proofs.lemmas.List.{get_or-map}
use Rattle.xsk_model.specs.Bases.{mark_bases as first_places}
use Rattle.xsk_table.specs.Layout.{word_from, marks_base}
use Rattle.xsk_table.specs.declared.bases.MarkBases.{MarkBases}
use Rattle.xsk_table.proofs.bases.MarkBases.word.Goals as goal

pub returns : goal.returns
returns c config is =
    let kind = c.mark_number-kind.result.0 in
    let word : slice_index_or c.args.self.now.words kind 0 ≡ word_from (marks_base config) (slice_index_or (first_places config) kind 0) =
    ap (λ (bases : MarkBases). slice_index_or bases.words kind 0) is ∙ get_or-map (word_from (marks_base config)) (first_places config) kind 0 0 c.mark_number-kind.ensures.kind in
    omega (arith, word, c.mark_number-kind.ensures.place config)
