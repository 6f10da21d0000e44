use Rattle.std.proofs.Common.{◌≡◌, sym, ◌∙◌}
use Rattle.std.proofs.lemmas.Bool.Decides.{Decides-eqb}
use Rattle.std.proofs.lemmas.Slice.Eq.{slice_eq-Decides}
use Rattle.xsk_why.proofs.Noting.{told_at, told_past}
use Rattle.xsk_why.proofs.waits.has_line.Goals as goal

pub returns-then-eq : goal.returns-then-eq
returns-then-eq c =
    let equal = slice_eq-Decides Decides-eqb c.as_slice.result.now c.args.line.now c.eq.result c.eq.ensures in
    let same : c.wait-item.result.line.items ≡ c.args.line.now = sym c.as_slice.ensures.value ∙ equal.0 c.if-eq.true in
    sym (c.loop-wait.invariant ∙ told_at c.args.line.now c.args.waits.now c.loop-wait.wait-index c.wait-item.result c.loop-wait-test.true c.wait-item.is same)

pub loop-wait-preserved : goal.loop-wait-preserved
loop-wait-preserved c =
    let equal = slice_eq-Decides Decides-eqb c.as_slice.result.now c.args.line.now c.eq.result c.eq.ensures in
    c.loop-wait.invariant
    ∙ told_past c.args.line.now c.args.waits.now c.loop-wait.wait-index c.wait-item.result c.loop-wait-test.true c.wait-item.is
    (λ same. let yes = equal.1 (c.as_slice.ensures.value ∙ same) in let no = c.if-eq.false in cc)
