use Rattle.std.proofs.Common.{rules, ◌+◌, eqb, arith}
use Rattle.xsk_legal.specs.Pieces.{IsPiece}
use Rattle.xsk_legal.proofs.Steps.{pieces_at}
use Rattle.xsk_legal.proofs.standing.are_layouts.Goals as goal

pub returns-then-not-is_piece : goal.returns-then-not-is_piece
returns-then-not-is_piece c =
    let step = pieces_at c.args.config.now.geometry c.args.config.now.sg c.args.items.now c.loop-i.i c.len-count.result c.item.result.now c.len-count.ensures.value (omega (arith, c.loop-i-test.true)) c.item.ensures in
    let bad : IsPiece c.args.config.now.geometry c.args.config.now.sg (eqb (c.loop-i.i + 1) c.len-count.result) c.item.result.now → ⊥ = search rules in
    (λ no. absurd (cc), λ h. absurd (bad (step.0 (c.loop-i.invariant.1 h)).0))

pub loop-i-preserved : goal.loop-i-preserved
loop-i-preserved c =
    let step = pieces_at c.args.config.now.geometry c.args.config.now.sg c.args.items.now c.loop-i.i c.len-count.result c.item.result.now c.len-count.ensures.value (omega (arith, c.loop-i-test.true)) c.item.ensures in
    let good : IsPiece c.args.config.now.geometry c.args.config.now.sg (eqb (c.loop-i.i + 1) c.len-count.result) c.item.result.now = search rules in
    (λ h. c.loop-i.invariant.0 (step.1 (good, h)), λ h. (step.0 (c.loop-i.invariant.1 h)).1)
