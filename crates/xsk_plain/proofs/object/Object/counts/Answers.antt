use Rattle.std.proofs.Common.{◌<◌, length, ap, sym, arith, ◌∙◌}
use Rattle.xsk_model.specs.Config.{size_of}
use Rattle.xsk_plain.specs.Counts.{counts_of}
use Rattle.xsk_plain.specs.Engine.{Part}
use Rattle.xsk_plain.specs.Stores.{part_of}
use Rattle.xsk_plain.proofs.StoreSteps.{part_here, size_here, length-rings}
use Rattle.xsk_plain.proofs.object.Object.counts.Goals as goal

pub returns : goal.returns
returns c =
    let config = c.args.self.now.config in
    let rings = c.args.self.now.rings.items in
    let store = c.index.result.now in
    let within : c.ring_place-place.result < length rings = omega (arith, c.ring_place-place.ensures.within, length-rings config rings c.args.self.now.sizes) in
    let size = size_here config rings c.ring_place-place.result store store within c.index.ensures c.args.ring c.requires c.ring_place-place.ensures.value c.args.self.now.sizes in
    let part = part_here config rings c.ring_place-place.result store store within c.index.ensures c.args.ring c.ring_place-place.ensures.value in
    c.counts.ensures ∙ ap (λ n. counts_of n (part_of store)) (sym size) ∙ ap (λ (p : Part). counts_of (size_of config c.args.ring) p) (sym part)
