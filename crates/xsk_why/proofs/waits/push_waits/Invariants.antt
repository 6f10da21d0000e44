use Rattle.std.proofs.Common.{◌≡◌, ◌++◌}
use Rattle.std.specs.Prelude.{flat_map}
use Rattle.std.specs.List.{range_with_len}
use Rattle.xsk_why.specs.KeptWaits.{shown}
use Rattle.xsk_why.specs.Waiting.{lines_by}
use Rattle.xsk_why.proofs.waits.push_waits.Given as goal

abbrev pub invariant-loop-who : goal.invariant-loop-who
invariant-loop-who l = l.text.items ≡ l.initial.text.items ++ flat_map (lines_by (shown l.waits)) (range_with_len 0 l.who)
