use Rattle.std.proofs.Common.{◌<◌, length, refl, arith, ◌∙◌}
use Rattle.xsk_model.specs.declared.call.Call.TheVariants.{Release}
use Rattle.xsk_plain.proofs.StoreSteps.{sizes-set, kept-set, kept_same, part_has, parts-set, length-rings}
use Rattle.xsk_plain.proofs.object.Object.release.Goals as goal

pub invariant_of-self-clause-sizes : goal.invariant_of-self-clause-sizes
invariant_of-self-clause-sizes c =
    let within : c.ring_place-place.result < length c.args.self.now.rings.items = omega (arith, c.ring_place-place.ensures.within, length-rings c.args.self.now.config c.args.self.now.rings.items c.args.self.now.sizes) in
    sizes-set c.args.self.now.config c.args.self.now.rings.items c.ring_place-place.result c.index_mut.result.now c.release.new.self within c.index_mut.ensures.value c.release.ensures.size
    ∙ c.args.self.now.sizes

pub returns-clause-changes : goal.returns-clause-changes
returns-clause-changes c =
    let within : c.ring_place-place.result < length c.args.self.now.rings.items = omega (arith, c.ring_place-place.ensures.within, length-rings c.args.self.now.config c.args.self.now.rings.items c.args.self.now.sizes) in
    record {
      config = refl;
      marks = refl;
      rings = parts-set c.args.self.now.config c.args.self.now.rings.items c.ring_place-place.result c.index_mut.result.now c.release.new.self within c.index_mut.ensures.value
          c.args.ring (Release c.args.ring c.args.count) c.requires.can.0 c.ring_place-place.ensures.value c.args.self.now.sizes (part_has c.release.new.self _ _ _ _ c.release.ensures);
    }

pub returns-clause-kept : goal.returns-clause-kept
returns-clause-kept c =
    let within : c.ring_place-place.result < length c.args.self.now.rings.items = omega (arith, c.ring_place-place.ensures.within, length-rings c.args.self.now.config c.args.self.now.rings.items c.args.self.now.sizes) in
    λ notes. λ kept. kept-set c.args.self.now.config c.args.self.now.rings.items c.ring_place-place.result c.index_mut.result.now c.release.new.self within c.index_mut.ensures.value
    notes kept (kept_same c.args.self.now.config notes c.index_mut.result.now c.release.new.self c.release.ensures.out)
