use Rattle.std.proofs.Common.{◌≡◌, take}
use Rattle.xsk_stats.specs.Report.{totals_of}
use Rattle.xsk_stats.proofs.totals.add_up.Given as goal

abbrev pub invariant-loop-driver : goal.invariant-loop-driver
invariant-loop-driver l = l.total ≡ totals_of l.classes (take l.driver l.drivers)
