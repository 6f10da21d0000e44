use Rattle.std.proofs.Common.{◌≡◌, ◌++◌, string_bytes}
use Rattle.xsk_stats.specs.Report.{pair_line}
use Rattle.xsk_stats.proofs.Lines.{lines_to}
use Rattle.xsk_stats.proofs.text.push_pairs.Given as goal

abbrev pub invariant-loop-pair : goal.invariant-loop-pair
invariant-loop-pair l = string_bytes l.text ≡ string_bytes l.initial.text ++ lines_to (λ pair driver. pair_line pair driver.counters) l.config l.drivers l.pair
