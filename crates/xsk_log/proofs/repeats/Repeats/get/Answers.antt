use Rattle.std.proofs.Common.{◌-◌, ◌<◌, length, sym, ap, ◌∙◌, rules}
use Rattle.std.specs.Prelude.{slice_get, vec_len}
use Rattle.xsk_log.proofs.RowLines.{has_at, value_at, place_within, read_within}
use Rattle.xsk_log.proofs.repeats.Repeats.get.Goals as goal

pub index-requires : goal.index-requires
index-requires g c =
    let within : c.args.i < length c.self.inside.places.items =
    read_within c.self.inside.values.items c.self.inside.places.items c.args.self.now (c.self.inside.limit - vec_len c.self.inside.places) c.args.i c.self.view_is c.self.invariant.0 c.requires in
    search rules

pub index-requires-2 : goal.index-requires-2
index-requires-2 g c =
    let within = read_within c.self.inside.values.items c.self.inside.places.items c.args.self.now (c.self.inside.limit - vec_len c.self.inside.places) c.args.i c.self.view_is c.self.invariant.0 c.requires in
    let kept : c.index.result.now < length c.self.inside.values.items =
    place_within (length c.self.inside.values.items) c.self.inside.places.items c.args.i c.index.result.now c.self.invariant.0 within c.index.ensures in
    search rules

pub returns : goal.returns
returns g c =
    let places = c.self.inside.places.items in
    let values = c.self.inside.values.items in
    let place = c.index.result.now in
    let below = c.self.invariant.0 in
    let within = read_within values places c.args.self.now (c.self.inside.limit - vec_len c.self.inside.places) c.args.i c.self.view_is below c.requires in
    sym (ap (λ list. slice_get list.items c.args.i) c.self.view_is)
    ∙ value_at values places c.args.i place c.index-2.result.now below (has_at places c.args.i place within c.index.ensures)
    (has_at values place c.index-2.result.now (place_within (length values) places c.args.i place below within c.index.ensures) c.index-2.ensures)
