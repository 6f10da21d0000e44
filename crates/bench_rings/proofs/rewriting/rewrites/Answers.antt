use Rattle.std.proofs.Common.{◌≡◌, ◌∷◌, ◌+◌, subst, sym, arith}
use Rattle.xsk_umem.specs.declared.batch.Item.{Item}
use Rattle.xsk_model.specs.Numbers.{number_of}
use Rattle.bench_rings.specs.Moving.{IsMoved}
use Rattle.bench_rings.proofs.Loops.{Moving, moving_more}
use Rattle.bench_rings.proofs.rewriting.rewrites.Goals as goal

pub items-preserved : goal.items-preserved
items-preserved c =
    let x : Item = c.in-Some.item in
    let y : Item = c.in-Some-rewritten.moved in
    let first : c.items.items ≡ x ∷ c.pop_front.new.self = c.in-Some.ensures.some in
    let h : IsMoved c.args.offset c.args.len y = c.in-Some-rewritten.ensures.moved in
    let number : number_of x.frame ≡ number_of y.frame = c.in-Some-rewritten.ensures.number in
    subst (Moving c.args.offset c.args.len (c.items.counter + 1) c.args.items.now) (sym c.push.ensures)
    (moving_more c.args.offset c.args.len c.items.counter c.args.items.now c.items.items c.pop_front.new.self x y c.items.invariant first (let t = c.items-test.true in let e = c.len-end.ensures.value in omega arith) h number)
