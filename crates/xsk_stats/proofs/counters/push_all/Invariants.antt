use Rattle.std.proofs.Common.{◌≡◌, ◌++◌, string_bytes}
use Rattle.std.specs.Prelude.{flat_map}
use Rattle.std.specs.List.{range_with_len}
use Rattle.xsk_model.specs.Config.{pair_at}
use Rattle.xsk_stats.specs.Counters.{both_lines, counters_at}
use Rattle.xsk_stats.proofs.counters.push_all.Given as goal

abbrev pub invariant-loop-pair : goal.invariant-loop-pair
invariant-loop-pair l =
    string_bytes l.text ≡ string_bytes l.initial.text ++ flat_map (λ pair. both_lines l.classes (pair_at l.config.pairs pair) (counters_at l.counters pair)) (range_with_len 0 l.pair)
