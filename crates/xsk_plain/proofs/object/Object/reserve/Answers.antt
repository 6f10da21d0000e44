use Rattle.std.proofs.Common.{◌<◌, length, refl, arith, ◌∙◌}
use Rattle.xsk_model.specs.declared.call.Call.TheVariants.{Reserve}
use Rattle.xsk_plain.proofs.StoreSteps.{sizes-set, kept-set, kept_same, parts-set, part_here, size_here, length-rings, reserved, reserved_items}
use Rattle.xsk_plain.proofs.object.Object.reserve.Goals as goal

pub invariant_of-self-clause-sizes : goal.invariant_of-self-clause-sizes
invariant_of-self-clause-sizes c =
    let within : c.ring_place-place.result < length c.args.self.now.rings.items = omega (arith, c.ring_place-place.ensures.within, length-rings c.args.self.now.config c.args.self.now.rings.items c.args.self.now.sizes) in
    sizes-set c.args.self.now.config c.args.self.now.rings.items c.ring_place-place.result c.index_mut.result.now c.reserve.new.self within c.index_mut.ensures.value
    (reserved_items c.index_mut.result.now c.reserve.new.self c.args.count c.reserve.result c.reserve.ensures.ok c.reserve.ensures.err).1
    ∙ c.args.self.now.sizes

pub returns-clause-changes : goal.returns-clause-changes
returns-clause-changes c =
    let within : c.ring_place-place.result < length c.args.self.now.rings.items = omega (arith, c.ring_place-place.ensures.within, length-rings c.args.self.now.config c.args.self.now.rings.items c.args.self.now.sizes) in
    record {
      config = refl;
      marks = refl;
      rings = parts-set c.args.self.now.config c.args.self.now.rings.items c.ring_place-place.result c.index_mut.result.now c.reserve.new.self within c.index_mut.ensures.value
          c.args.ring (Reserve c.args.ring c.args.count) c.requires.can c.ring_place-place.ensures.value c.args.self.now.sizes
          (reserved c.index_mut.result.now c.reserve.new.self c.args.ring c.args.count c.reserve.result c.reserve.ensures.granted c.reserve.ensures.ok c.reserve.ensures.err);
    }

pub returns-clause-kept : goal.returns-clause-kept
returns-clause-kept c =
    let within : c.ring_place-place.result < length c.args.self.now.rings.items = omega (arith, c.ring_place-place.ensures.within, length-rings c.args.self.now.config c.args.self.now.rings.items c.args.self.now.sizes) in
    λ notes. λ kept. kept-set c.args.self.now.config c.args.self.now.rings.items c.ring_place-place.result c.index_mut.result.now c.reserve.new.self within c.index_mut.ensures.value
    notes kept (kept_same c.args.self.now.config notes c.index_mut.result.now c.reserve.new.self
    (reserved_items c.index_mut.result.now c.reserve.new.self c.args.count c.reserve.result c.reserve.ensures.ok c.reserve.ensures.err).0)

pub returns-clause-granted : goal.returns-clause-granted
returns-clause-granted c =
    let within : c.ring_place-place.result < length c.args.self.now.rings.items = omega (arith, c.ring_place-place.ensures.within, length-rings c.args.self.now.config c.args.self.now.rings.items c.args.self.now.sizes) in
    let has = c.requires.can in
    let size = size_here c.args.self.now.config c.args.self.now.rings.items c.ring_place-place.result c.index_mut.result.now c.reserve.new.self within c.index_mut.ensures.value c.args.ring has c.ring_place-place.ensures.value c.args.self.now.sizes in
    let part = part_here c.args.self.now.config c.args.self.now.rings.items c.ring_place-place.result c.index_mut.result.now c.reserve.new.self within c.index_mut.ensures.value c.args.ring c.ring_place-place.ensures.value in
    rw (size, part) c.reserve.ensures.granted

pub returns-clause-full : goal.returns-clause-full
returns-clause-full c =
    let within : c.ring_place-place.result < length c.args.self.now.rings.items = omega (arith, c.ring_place-place.ensures.within, length-rings c.args.self.now.config c.args.self.now.rings.items c.args.self.now.sizes) in
    let has = c.requires.can in
    let size = size_here c.args.self.now.config c.args.self.now.rings.items c.ring_place-place.result c.index_mut.result.now c.reserve.new.self within c.index_mut.ensures.value c.args.ring has c.ring_place-place.ensures.value c.args.self.now.sizes in
    let part = part_here c.args.self.now.config c.args.self.now.rings.items c.ring_place-place.result c.index_mut.result.now c.reserve.new.self within c.index_mut.ensures.value c.args.ring c.ring_place-place.ensures.value in
    rw (size, part) c.reserve.ensures.full
