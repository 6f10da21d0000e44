use Rattle.std.proofs.Common.{arith}
use Rattle.xsk_legal.proofs.Items.{peek_begins, peek_can, peek_next}
use Rattle.xsk_legal.proofs.standing.Standing.peeked.Goals as goal

pub loop-i-init : goal.loop-i-init
loop-i-init c = peek_begins c.args.config.now c.args.self.now c.args.ring c.args.items.now

pub fetched-requires : goal.fetched-requires
fetched-requires c =
    let mine = c.requires.may.0 in
    let count = c.requires.may.1 in
    peek_can c.args.config.now c.args.self.now c.loop-i.self c.args.ring c.args.items.now c.loop-i.i c.item.result.now c.loop-i.invariant c.item.ensures
    (omega (arith, c.loop-i-test.true, c.len-i-end.ensures.value)) mine count c.requires.may.2 c.requires.may.3

pub loop-i-preserved : goal.loop-i-preserved
loop-i-preserved c =
    peek_next c.args.config.now c.args.self.now c.loop-i.self c.args.ring c.args.items.now c.loop-i.i c.item.result.now c.loop-i.invariant c.item.ensures
    (omega (arith, c.loop-i-test.true, c.len-i-end.ensures.value)) c.fetched.new.self c.fetched.ensures.caller c.fetched.ensures.goes_on c.fetched.ensures.ends

pub returns-clause-caller : goal.returns-clause-caller
returns-clause-caller c = c.loop-i.invariant.caller

pub returns-clause-stands : goal.returns-clause-stands
returns-clause-stands c = λ mine count h gift.
    c.loop-i.invariant.ends mine count h gift (omega (arith, c.loop-i-test.false, c.loop-i.auto.i-end, c.len-i-end.ensures.value))
