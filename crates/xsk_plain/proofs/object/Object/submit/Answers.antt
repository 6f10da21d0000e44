use Rattle.std.proofs.Common.{◌<◌, length, refl, arith, ◌∙◌}
use Rattle.xsk_model.specs.declared.call.Call.TheVariants.{Submit}
use Rattle.xsk_plain.proofs.StoreSteps.{sizes-set, kept-set, parts-set, room_here, kept_here, length-rings}
use Rattle.xsk_log.specs.Log.{notes_of}
use Rattle.xsk_plain.proofs.Moves.{all_kept_grown}
use Rattle.xsk_plain.proofs.object.Object.submit.Goals as goal

pub invariant_of-self-clause-sizes : goal.invariant_of-self-clause-sizes
invariant_of-self-clause-sizes c =
    let within : c.ring_place-place.result < length c.args.self.now.rings.items = omega (arith, c.ring_place-place.ensures.within, length-rings c.args.self.now.config c.args.self.now.rings.items c.args.self.now.sizes) in
    sizes-set c.args.self.now.config c.args.self.now.rings.items c.ring_place-place.result c.index_mut.result.now c.put_items.new.store within c.index_mut.ensures.value c.put_items.ensures.size
    ∙ c.args.self.now.sizes

pub returns-clause-changes : goal.returns-clause-changes
returns-clause-changes c =
    let within : c.ring_place-place.result < length c.args.self.now.rings.items = omega (arith, c.ring_place-place.ensures.within, length-rings c.args.self.now.config c.args.self.now.rings.items c.args.self.now.sizes) in
    record {
      config = refl;
      marks = refl;
      rings = parts-set c.args.self.now.config c.args.self.now.rings.items c.ring_place-place.result c.index_mut.result.now c.put_items.new.store within c.index_mut.ensures.value
          c.args.ring (Submit c.args.ring c.args.items.now) c.requires.can.0 c.ring_place-place.ensures.value c.args.self.now.sizes
          c.put_items.ensures.ring;
    }

pub returns-clause-kept : goal.returns-clause-kept
returns-clause-kept c =
    let within : c.ring_place-place.result < length c.args.self.now.rings.items = omega (arith, c.ring_place-place.ensures.within, length-rings c.args.self.now.config c.args.self.now.rings.items c.args.self.now.sizes) in
    kept-set c.args.self.now.config c.args.self.now.rings.items c.ring_place-place.result c.index_mut.result.now c.put_items.new.store within c.index_mut.ensures.value
    (notes_of c.put_items.new.log) (all_kept_grown c.args.self.now.config (notes_of c.args.log.now) (notes_of c.put_items.new.log) c.args.self.now.rings.items c.put_items.ensures.notes c.requires.kept)
    (λ kept. c.put_items.ensures.kept (kept_here c.args.self.now.config c.args.self.now.rings.items c.ring_place-place.result c.index_mut.result.now c.put_items.new.store within c.index_mut.ensures.value
    (notes_of c.args.log.now) c.requires.kept))

pub put_items-requires-clause-room : goal.put_items-requires-clause-room
put_items-requires-clause-room c =
    let within : c.ring_place-place.result < length c.args.self.now.rings.items = omega (arith, c.ring_place-place.ensures.within, length-rings c.args.self.now.config c.args.self.now.rings.items c.args.self.now.sizes) in
    room_here c.args.self.now.config c.args.self.now.rings.items c.ring_place-place.result c.index_mut.result.now c.index_mut.result.now within c.index_mut.ensures.value
    c.args.ring (length c.args.items.now) c.ring_place-place.ensures.value c.requires.can.1
