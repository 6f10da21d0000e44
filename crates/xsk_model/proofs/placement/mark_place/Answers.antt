use Rattle.std.proofs.Common.{ℕ, List, ◌+◌, ◌<◌, ap, subst, sym, slice_index_or, ◌∙◌}
use Rattle.xsk_model.proofs.MarkPlaces.{mark_place_below}
use Rattle.xsk_model.specs.Marks.{mark_places_of}
use Rattle.xsk_model.proofs.placement.mark_place.Goals as goal

pub returns-clause-value : goal.returns-clause-value
returns-clause-value c =
    ap (λ (xs : List ℕ). slice_index_or xs c.mark_number-kind.result.0 0 + c.mark_number-kind.result.1) c.first_marks.ensures.bases ∙ c.mark_number-kind.ensures.place c.args.config.now

pub returns-clause-within : goal.returns-clause-within
returns-clause-within c =
    subst (λ n. n < mark_places_of c.args.config.now) (sym (returns-clause-value c)) (mark_place_below c.args.config.now c.args.mark c.first_marks.ensures.lawful c.requires)
