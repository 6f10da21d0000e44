use Rattle.std.proofs.Common.{◌≡◌, ◌++◌, List}
use Rattle.std.specs.Prelude.{flat_map}
use Rattle.std.specs.List.{range_with_len}
use Rattle.xsk_judge.specs.Stands.{Line, StandsFor}
use Rattle.xsk_hints.specs.Noted.{Notes}
use Rattle.xsk_hints.specs.Told.{pair_lines}
use Rattle.xsk_hints.proofs.rings.push_pairs.Given as goal

abbrev pub invariant-loop-pair : goal.invariant-loop-pair
invariant-loop-pair l = (lines : List Line) → StandsFor l.setting l.judge lines → Notes l.setting l.hints lines
    → l.text.items ≡ l.initial.text.items ++ flat_map (pair_lines l.setting l.hints.metadata lines) (range_with_len 0 l.pair)
