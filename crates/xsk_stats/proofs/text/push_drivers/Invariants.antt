use Rattle.std.proofs.Common.{◌≡◌, ◌++◌, string_bytes}
use Rattle.xsk_stats.specs.Report.{driver_line}
use Rattle.xsk_stats.proofs.Lines.{lines_to}
use Rattle.xsk_stats.proofs.text.push_drivers.Given as goal

abbrev pub invariant-loop-pair : goal.invariant-loop-pair
invariant-loop-pair l = string_bytes l.text ≡ string_bytes l.initial.text ++ lines_to driver_line l.config l.drivers l.pair
