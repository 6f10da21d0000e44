use Rattle.std.proofs.Common.{◌≡◌, ◌++◌, List}
use Rattle.std.specs.Prelude.{flat_map}
use Rattle.std.specs.List.{range_with_len}
use Rattle.xsk_judge.specs.Stands.{Line}
use Rattle.xsk_hints.specs.Fills.{Feeds, fill_lines}
use Rattle.xsk_hints.proofs.fills.push_fills.Given as goal

abbrev pub invariant-loop-pair : goal.invariant-loop-pair
invariant-loop-pair l = (lines : List Line) → Feeds l.setting l.fills lines → l.text.items ≡ l.initial.text.items ++ flat_map (fill_lines l.setting lines) (range_with_len 0 l.pair)
