use Rattle.std.proofs.Common.{ℕ, ◌<◌, length, ap, sym, arith, ◌∙◌}
use Rattle.xsk_plain.specs.Engine.{Part}
use Rattle.xsk_plain.proofs.StoreSteps.{part_here, length-rings}
use Rattle.xsk_plain.proofs.object.Object.taken.Goals as goal

pub returns-clause-room : goal.returns-clause-room
returns-clause-room c =
    let config = c.args.self.now.config in
    let rings = c.args.self.now.rings.items in
    let within : c.ring_place-place.result < length rings = omega (arith, c.ring_place-place.ensures.within, length-rings config rings c.args.self.now.sizes) in
    let part = part_here config rings c.ring_place-place.result c.index.result.now c.index.result.now within c.index.ensures c.args.ring c.ring_place-place.ensures.value in
    ap (λ (taken : ℕ × ℕ). taken.0) c.taken.ensures ∙ ap (λ (p : Part). p.room) (sym part)

pub returns-clause-held : goal.returns-clause-held
returns-clause-held c =
    let config = c.args.self.now.config in
    let rings = c.args.self.now.rings.items in
    let within : c.ring_place-place.result < length rings = omega (arith, c.ring_place-place.ensures.within, length-rings config rings c.args.self.now.sizes) in
    let part = part_here config rings c.ring_place-place.result c.index.result.now c.index.result.now within c.index.ensures c.args.ring c.ring_place-place.ensures.value in
    ap (λ (taken : ℕ × ℕ). taken.1) c.taken.ensures ∙ ap (λ (p : Part). p.held) (sym part)
