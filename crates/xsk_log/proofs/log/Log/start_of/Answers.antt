use Rattle.std.proofs.Common.{◌+◌, ◌≤◌, sym, ap, ◌∙◌, arith, rules}
use Rattle.xsk_log.proofs.RowLines.{next_start, row_within}
use Rattle.xsk_log.proofs.log.Log.start_of.Goals as goal

pub overflow_add-start : goal.overflow_add-start
overflow_add-start c =
    let sum = row_within c.args.self.now.rows.items c.loop-k.k c.get-start.result c.get-start.ensures in
    let few : c.loop-k.start + c.get-start.result.items ≤ c.args.self.now.begun = omega (arith, sum, c.loop-k.invariant, c.args.self.now.begun_is) in
    search rules

pub loop-k-preserved : goal.loop-k-preserved
loop-k-preserved c =
    ap (λ n. n + c.get-start.result.items) c.loop-k.invariant ∙ sym (next_start c.args.self.now.rows.items c.loop-k.k c.get-start.result c.get-start.ensures)
