use Rattle.std.proofs.Common.{◌≡◌}
use Rattle.xsk_turns.specs.Statistics.{capped}
use Rattle.xsk_stats.specs.Report.{of_sockets}
use Rattle.xsk_stats.proofs.totals.sum_of.Given as goal

abbrev pub invariant-loop-class : goal.invariant-loop-class
invariant-loop-class l = l.sum ≡ capped (of_sockets l.class l.counter)
