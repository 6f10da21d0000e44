use Rattle.std.proofs.Common.{◌≡◌, ◌++◌, string_bytes}
use Rattle.xsk_stats.specs.Report.{socket_lines}
use Rattle.xsk_stats.proofs.Lines.{lines_to}
use Rattle.xsk_stats.proofs.text.push_all_sockets.Given as goal

abbrev pub invariant-loop-pair : goal.invariant-loop-pair
invariant-loop-pair l = string_bytes l.text ≡ string_bytes l.initial.text ++ lines_to (λ pair driver. socket_lines l.classes pair driver.counters) l.config l.drivers l.pair
