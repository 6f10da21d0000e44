use Rattle.std.proofs.Common.{arith}
use Rattle.xsk_legal.proofs.Items.{submit_begins, submit_can, submit_next}
use Rattle.xsk_legal.proofs.standing.Standing.submitted.Goals as goal

pub loop-i-init : goal.loop-i-init
loop-i-init c = submit_begins c.args.config.now c.args.self.now c.args.ring c.args.items.now

pub placed-requires : goal.placed-requires
placed-requires c =
    let mine = c.requires.legal.0 in
    submit_can c.args.config.now c.args.self.now c.loop-i.self c.args.ring c.args.items.now c.loop-i.i c.item.result.now c.loop-i.invariant c.item.ensures
    (omega (arith, c.loop-i-test.true, c.len-i-end.ensures.value)) mine c.requires.legal.1 c.requires.legal.2

pub loop-i-preserved : goal.loop-i-preserved
loop-i-preserved c =
    submit_next c.args.config.now c.args.self.now c.loop-i.self c.args.ring c.args.items.now c.loop-i.i c.item.result.now c.loop-i.invariant c.item.ensures
    (omega (arith, c.loop-i-test.true, c.len-i-end.ensures.value)) c.placed.new.self c.placed.ensures.caller c.placed.ensures.goes_on c.placed.ensures.ends

pub returns-clause-caller : goal.returns-clause-caller
returns-clause-caller c = c.loop-i.invariant.caller

pub returns-clause-stands : goal.returns-clause-stands
returns-clause-stands c = λ mine h legal.
    c.loop-i.invariant.ends mine h legal (omega (arith, c.loop-i-test.false, c.loop-i.auto.i-end, c.len-i-end.ensures.value))
