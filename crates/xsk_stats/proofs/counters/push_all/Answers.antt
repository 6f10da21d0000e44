use Rattle.std.proofs.Common.{◌++◌, ℕ, List, string_bytes, ap, ◌∙◌}
use Rattle.xsk_model.specs.Config.{pair_at}
use Rattle.xsk_model.specs.declared.config.PairInfo.{PairInfo}
use Rattle.xsk_turns.specs.declared.disposal.DriverCounters.{DriverCounters}
use Rattle.xsk_stats.specs.Counters.{both_lines, counters_at}
use Rattle.xsk_stats.proofs.Lines.{line_more}
use Rattle.xsk_stats.proofs.counters.push_all.Goals as goal

pub loop-pair-preserved : goal.loop-pair-preserved
loop-pair-preserved c =
    let l = c.loop-pair in
    let before = string_bytes l.text in
    let line : ℕ → List ℕ = λ pair. both_lines c.classes-classes.result (pair_at c.args.config.now.pairs pair) (counters_at c.args.counters.now pair) in
    line_more line l.pair _ _ _ l.invariant
    (c.in_ok-push_both.ensures ∙ ap (λ (p : PairInfo). before ++ both_lines c.classes-classes.result p c.counters_of.result.now) c.pair_of.ensures
    ∙ ap (λ (k : DriverCounters). before ++ both_lines c.classes-classes.result (pair_at c.args.config.now.pairs l.pair) k) c.counters_of.ensures)
