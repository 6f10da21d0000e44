-- The lines of the counters of drivers, pair by pair, each as a report has it.
use Rattle.std.specs.Prelude.{ℕ, List, ◌++◌, length, flat_map}
use Rattle.std.specs.List.{range_with_len, slice_index_or}
use Rattle.xsk_model.specs.Config.{Config, pair_at, classes_of}
use Rattle.xsk_model.specs.declared.config.PairInfo.{PairInfo}
use Rattle.xsk_turns.specs.Counters.{no_counters}
use Rattle.xsk_turns.specs.declared.disposal.DriverCounters.{DriverCounters}
use Rattle.xsk_stats.specs.Report.{pair_line, socket_lines}

-- the line of a pair, and those of its sockets
abbrev pub both_lines : ℕ → PairInfo → DriverCounters → List ℕ
both_lines classes pair counters = pair_line pair counters ++ socket_lines classes pair counters

-- the counters of the driver of a pair
abbrev pub counters_at : List DriverCounters → ℕ → DriverCounters
counters_at counters pair = slice_index_or counters pair no_counters

abbrev pub counters_text : Config → List DriverCounters → List ℕ
counters_text c counters = flat_map (λ pair. both_lines (classes_of c) (pair_at c.pairs pair) (counters_at counters pair)) (range_with_len 0 (length c.pairs))
