use Rattle.std.proofs.Common.{◌≡◌, ◌++◌, string_bytes}
use Rattle.std.specs.Prelude.{flat_map}
use Rattle.std.specs.List.{range_with_len}
use Rattle.xsk_stats.specs.Report.{socket_line}
use Rattle.xsk_stats.proofs.text.push_sockets.Given as goal

abbrev pub invariant-loop-class : goal.invariant-loop-class
invariant-loop-class l = string_bytes l.text ≡ string_bytes l.initial.text ++ flat_map (socket_line l.pair l.counters) (range_with_len 0 l.class)
