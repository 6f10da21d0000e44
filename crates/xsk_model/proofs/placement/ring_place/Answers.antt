use Rattle.std.proofs.Common.{ℕ, List, ◌+◌, ◌<◌, ap, subst, sym, slice_index_or, ◌∙◌}
use Rattle.xsk_model.proofs.Places.{place_below}
use Rattle.xsk_model.specs.Rings.{places_of}
use Rattle.xsk_model.proofs.placement.ring_place.Goals as goal

pub returns-clause-value : goal.returns-clause-value
returns-clause-value c =
    ap (λ (xs : List ℕ). slice_index_or xs c.ring_number-kind.result.0 0 + c.ring_number-kind.result.1) c.first_rings.ensures.bases ∙ c.ring_number-kind.ensures.place c.args.config.now

pub returns-clause-within : goal.returns-clause-within
returns-clause-within c =
    subst (λ n. n < places_of c.args.config.now) (sym (returns-clause-value c)) (place_below c.args.config.now c.args.ring c.requires)
