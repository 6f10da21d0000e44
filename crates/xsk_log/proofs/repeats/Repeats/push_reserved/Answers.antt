use Rattle.std.proofs.Common.{◌∷◌, [], ◌++◌, ap, ◌∙◌}
use Rattle.xsk_log.proofs.Places.{values-push}
use Rattle.xsk_log.proofs.repeats.Repeats.push_reserved.Goals as goal

pub returns-clause-items : goal.returns-clause-items
returns-clause-items g c =
    values-push c.self.inside.values.items c.place_of-place.new.values.items c.self.inside.places.items c.push_reserved.new.self.items c.place_of-place.result c.args.value.now
    c.place_of-place.ensures.kept c.place_of-place.ensures.shown c.push_reserved.ensures.items c.self.invariant.0
    ∙ ap (λ list. list.items ++ c.args.value.now ∷ []) c.self.view_is
