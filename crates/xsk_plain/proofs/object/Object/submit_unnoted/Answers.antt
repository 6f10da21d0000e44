use Rattle.std.proofs.Common.{◌<◌, length, refl, arith, ◌∙◌}
use Rattle.xsk_model.specs.declared.call.Call.TheVariants.{Submit}
use Rattle.xsk_plain.proofs.StoreSteps.{sizes-set, parts-set, room_here, length-rings}
use Rattle.xsk_plain.proofs.object.Object.submit_unnoted.Goals as goal

pub invariant_of-self-clause-sizes : goal.invariant_of-self-clause-sizes
invariant_of-self-clause-sizes c =
    let within : c.ring_place-place.result < length c.args.self.now.rings.items = omega (arith, c.ring_place-place.ensures.within, length-rings c.args.self.now.config c.args.self.now.rings.items c.args.self.now.sizes) in
    sizes-set c.args.self.now.config c.args.self.now.rings.items c.ring_place-place.result c.index_mut.result.now c.put_unnoted.new.store within c.index_mut.ensures.value c.put_unnoted.ensures.size
    ∙ c.args.self.now.sizes

pub returns-clause-changes : goal.returns-clause-changes
returns-clause-changes c =
    let within : c.ring_place-place.result < length c.args.self.now.rings.items = omega (arith, c.ring_place-place.ensures.within, length-rings c.args.self.now.config c.args.self.now.rings.items c.args.self.now.sizes) in
    record {
      config = refl;
      marks = refl;
      rings = parts-set c.args.self.now.config c.args.self.now.rings.items c.ring_place-place.result c.index_mut.result.now c.put_unnoted.new.store within c.index_mut.ensures.value
          c.args.ring (Submit c.args.ring c.args.items.now) c.requires.can.0 c.ring_place-place.ensures.value c.args.self.now.sizes
          c.put_unnoted.ensures.ring;
    }

pub put_unnoted-requires : goal.put_unnoted-requires
put_unnoted-requires c =
    let within : c.ring_place-place.result < length c.args.self.now.rings.items = omega (arith, c.ring_place-place.ensures.within, length-rings c.args.self.now.config c.args.self.now.rings.items c.args.self.now.sizes) in
    record {
      room = room_here c.args.self.now.config c.args.self.now.rings.items c.ring_place-place.result c.index_mut.result.now c.index_mut.result.now within c.index_mut.ensures.value
          c.args.ring (length c.args.items.now) c.ring_place-place.ensures.value c.requires.can.1;
    }
