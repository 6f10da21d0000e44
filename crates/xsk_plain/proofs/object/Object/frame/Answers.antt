use Rattle.std.proofs.Common.{◌<◌, length, slice_get, ap, sym, arith, ◌∙◌}
use Rattle.std.proofs.lemmas.List.{length-map}
use Rattle.xsk_plain.specs.Engine.{Part}
use Rattle.xsk_plain.specs.Stores.{stored_item_of}
use Rattle.xsk_plain.proofs.StoreSteps.{part_here, length-rings}
use Rattle.xsk_plain.proofs.Fronts.{item_here}
use Rattle.xsk_plain.proofs.object.Object.frame.Goals as goal

pub frame-requires : goal.frame-requires
frame-requires c =
    let config = c.args.self.now.config in
    let rings = c.args.self.now.rings.items in
    let store = c.index.result.now in
    let within : c.ring_place-place.result < length rings = omega (arith, c.ring_place-place.ensures.within, length-rings config rings c.args.self.now.sizes) in
    let part = part_here config rings c.ring_place-place.result store store within c.index.ensures c.args.ring c.ring_place-place.ensures.value in
    let same = length-map store.out.items stored_item_of in
    let all = ap (λ (p : Part). length p.out) part in
    omega (arith, c.requires.within, all, same)

pub returns : goal.returns
returns c = λ item is.
    let config = c.args.self.now.config in
    let rings = c.args.self.now.rings.items in
    let store = c.index.result.now in
    let within : c.ring_place-place.result < length rings = omega (arith, c.ring_place-place.ensures.within, length-rings config rings c.args.self.now.sizes) in
    let part = part_here config rings c.ring_place-place.result store store within c.index.ensures c.args.ring c.ring_place-place.ensures.value in
    let here = item_here store.out.items c.args.i item (sym (ap (λ (p : Part). slice_get p.out c.args.i) part) ∙ is) in
    c.frame.ensures here.0 here.1 ∙ here.2
