use Rattle.std.proofs.Common.{◌≡◌, ◌++◌}
use Rattle.std.specs.Prelude.{flat_map}
use Rattle.std.specs.List.{range_with_len}
use Rattle.xsk_why.specs.Rings.{pair_lines}
use Rattle.xsk_why.proofs.rings.push_pairs.Given as goal

abbrev pub invariant-loop-pair : goal.invariant-loop-pair
invariant-loop-pair l = l.text.items ≡ l.initial.text.items ++ flat_map (pair_lines l.plain.config l.plain.rings) (range_with_len 0 l.pair)
