use Rattle.std.proofs.Common.{◌≡◌, ◌+◌, ◌<◌, length, take, drop, map, refl, sym, ap, arith, ◌∙◌}
use Rattle.xsk_model.specs.declared.call.Call.TheVariants.{Peek}
use Rattle.xsk_plain.specs.Engine.{Part}
use Rattle.xsk_plain.specs.Stores.{stored_item_of}
use Rattle.xsk_plain.proofs.StoreSteps.{sizes-set, parts-set, part_here, length-rings}
use Rattle.xsk_plain.proofs.object.Object.peek_unnoted.Goals as goal

pub invariant_of-self-clause-sizes : goal.invariant_of-self-clause-sizes
invariant_of-self-clause-sizes c =
    let within : c.ring_place-place.result < length c.args.self.now.rings.items = omega (arith, c.ring_place-place.ensures.within, length-rings c.args.self.now.config c.args.self.now.rings.items c.args.self.now.sizes) in
    sizes-set c.args.self.now.config c.args.self.now.rings.items c.ring_place-place.result c.index_mut.result.now c.take_unnoted.new.store within c.index_mut.ensures.value c.take_unnoted.ensures.size
    ∙ c.args.self.now.sizes

pub returns-clause-changes : goal.returns-clause-changes
returns-clause-changes c =
    let within : c.ring_place-place.result < length c.args.self.now.rings.items = omega (arith, c.ring_place-place.ensures.within, length-rings c.args.self.now.config c.args.self.now.rings.items c.args.self.now.sizes) in
    record {
      config = refl;
      marks = refl;
      rings =
          let result : length c.take_unnoted.new.items ≡ length (take c.args.count (map stored_item_of c.index_mut.result.now.out.items)) = ap length c.take_unnoted.ensures.items in
          parts-set c.args.self.now.config c.args.self.now.rings.items c.ring_place-place.result c.index_mut.result.now c.take_unnoted.new.store within c.index_mut.ensures.value
          c.args.ring (Peek c.args.ring c.args.count) c.requires.can.0 c.ring_place-place.ensures.value c.args.self.now.sizes
          (c.take_unnoted.ensures.ring
          ∙ ap (λ n. record { out = drop c.args.count (map stored_item_of c.index_mut.result.now.out.items); held = c.index_mut.result.now.held + n; room = c.index_mut.result.now.room }) result);
    }

pub returns-clause-items : goal.returns-clause-items
returns-clause-items c =
    let within : c.ring_place-place.result < length c.args.self.now.rings.items = omega (arith, c.ring_place-place.ensures.within, length-rings c.args.self.now.config c.args.self.now.rings.items c.args.self.now.sizes) in
    let part = part_here c.args.self.now.config c.args.self.now.rings.items c.ring_place-place.result c.index_mut.result.now c.take_unnoted.new.store within c.index_mut.ensures.value c.args.ring c.ring_place-place.ensures.value in
    c.take_unnoted.ensures.items ∙ ap (λ (p : Part). take c.args.count p.out) (sym part)
