use Rattle.std.proofs.Common.{◌≡◌, ◌∙◌, sym, ap, arith, length, true, false}
use Rattle.xsk_audit.specs.Naming.{item_in}
use Rattle.xsk_audit.proofs.Named.{names-here, names-next, names-none}
use Rattle.xsk_audit.proofs.naming.names.Goals as goal

pub returns-in_default : goal.returns-in_default
returns-in_default c =
    let l = c.loop-byte in
    sym (names-none c.args.geometry.now c.args.frame l.rest.now c.in_default.ensures.cases) ∙ l.invariant.0

pub returns-then-item_in : goal.returns-then-item_in
returns-then-item_in c =
    let l = c.loop-byte in
    let here : item_in c.args.geometry.now c.args.frame l.rest.now ≡ true = sym c.item_in.ensures ∙ c.if-item_in.true in
    sym (names-here c.args.geometry.now c.args.frame l.rest.now c.in-Some._first.now c.in-Some.later.now c.in-Some.ensures.cases.0 here) ∙ l.invariant.0

pub loop-byte-preserved : goal.loop-byte-preserved
loop-byte-preserved c =
    let l = c.loop-byte in
    let other : item_in c.args.geometry.now c.args.frame l.rest.now ≡ false = sym c.item_in.ensures ∙ c.if-item_in.false in (
      sym (names-next c.args.geometry.now c.args.frame l.rest.now c.in-Some._first.now c.in-Some.later.now c.in-Some.ensures.cases.0 other) ∙ l.invariant.0,
      omega (arith, l.invariant.1, ap length c.in-Some.ensures.cases.0),
    )

pub returns : goal.returns
returns c =
    let l = c.loop-byte in
    sym (names-none c.args.geometry.now c.args.frame l.rest.now (omega (arith, l.invariant.1, c.loop-byte-test.false, c.loop-byte.auto._byte-end))) ∙ l.invariant.0
