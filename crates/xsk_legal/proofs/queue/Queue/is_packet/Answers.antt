use Rattle.std.proofs.Common.{rules, ◌≡◌, ◌+◌, ◌<◌, length, slice_get, Some, None, eqb, arith}
use Rattle.xsk_legal.specs.Queue.{IsNext}
use Rattle.xsk_legal.proofs.Steps.{packet_at, no_desc}
use Rattle.xsk_legal.proofs.queue.Queue.is_packet.Goals as goal

pub returns-in_default : goal.returns-in_default
returns-in_default c =
    let none : slice_get c.args.self.now.descs c.loop-i.i ≡ None = search rules in
    let within : c.loop-i.i < length c.args.items.now = omega (arith, c.loop-i-test.true, c.len-count.ensures.value) in
    (λ no. absurd (cc), λ h. absurd (no_desc c.args.self.now.descs c.args.items.now c.loop-i.i none within (c.loop-i.invariant.1 h)))

pub returns-then-not-is_piece : goal.returns-then-not-is_piece
returns-then-not-is_piece c =
    let desc : slice_get c.args.self.now.descs c.loop-i.i ≡ Some c.in-Some.desc = search rules in
    let step = packet_at c.args.self.now.descs c.args.items.now c.loop-i.i c.len-count.result c.in-Some.desc c.item.result.now c.len-count.ensures.value (omega (arith, c.loop-i-test.true)) desc c.item.ensures in
    let bad : IsNext c.in-Some.desc (eqb (c.loop-i.i + 1) c.len-count.result) c.item.result.now → ⊥ = search rules in
    (λ no. absurd (cc), λ h. absurd (bad (step.0 (c.loop-i.invariant.1 h)).0))

pub loop-i-preserved : goal.loop-i-preserved
loop-i-preserved c =
    let desc : slice_get c.args.self.now.descs c.loop-i.i ≡ Some c.in-Some.desc = search rules in
    let step = packet_at c.args.self.now.descs c.args.items.now c.loop-i.i c.len-count.result c.in-Some.desc c.item.result.now c.len-count.ensures.value (omega (arith, c.loop-i-test.true)) desc c.item.ensures in
    let good : IsNext c.in-Some.desc (eqb (c.loop-i.i + 1) c.len-count.result) c.item.result.now = search rules in
    (λ h. c.loop-i.invariant.0 (step.1 (good, h)), λ h. (step.0 (c.loop-i.invariant.1 h)).1)
