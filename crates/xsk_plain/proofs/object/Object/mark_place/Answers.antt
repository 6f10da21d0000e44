use Rattle.std.proofs.Common.{ℕ, List, ◌+◌, ◌<◌, ap, subst, sym, slice_index_or, ◌∙◌}
use Rattle.xsk_model.proofs.MarkPlaces.{mark_place_below}
use Rattle.xsk_model.specs.Marks.{mark_places_of}
use Rattle.xsk_plain.proofs.object.Object.mark_place.Goals as goal

pub returns-clause-value : goal.returns-clause-value
returns-clause-value c =
    let o = c.args.self.now in
    ap (λ (xs : List ℕ). slice_index_or xs c.mark_number-kind.result.0 0 + c.mark_number-kind.result.1) o.marks_begin ∙ c.mark_number-kind.ensures.place o.config

pub returns-clause-within : goal.returns-clause-within
returns-clause-within c =
    let o = c.args.self.now in
    subst (λ n. n < mark_places_of o.config) (sym (returns-clause-value c)) (mark_place_below o.config c.args.mark c.sockets-sockets.ensures.lawful c.requires)
