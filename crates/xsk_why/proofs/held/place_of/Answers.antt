use Rattle.std.proofs.Common.{◌++◌, take, sym, ap, ◌∙◌, arith}
use Rattle.xsk_why.proofs.Having.{found_at, none_after, not_at}
use Rattle.xsk_why.proofs.held.place_of.Goals as goal

pub returns-then-is_own-clause-place : goal.returns-then-is_own-clause-place
returns-then-is_own-clause-place c =
    let l = c.loop-place in
    let held = c.args.held.now in
    ap (λ hs. take l.place held ++ hs) (sym (found_at c.args.who c.args.frame held l.place _ c.loop-place-test.true (sym c.is_own.ensures ∙ c.if-is_own.true))) ∙ l.invariant

pub loop-place-preserved : goal.loop-place-preserved
loop-place-preserved c =
    let l = c.loop-place in
    sym (not_at c.args.who c.args.frame c.args.held.now l.place _ c.loop-place-test.true (sym c.is_own.ensures ∙ c.if-is_own.false)) ∙ l.invariant

pub returns-clause-place : goal.returns-clause-place
returns-clause-place c =
    let l = c.loop-place in
    none_after c.args.who c.args.frame c.args.held.now l.place (omega (arith, c.loop-place-test.false)) l.invariant
