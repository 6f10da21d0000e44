use Rattle.std.proofs.Common.{◌≡◌, ◌++◌, List}
use Rattle.std.specs.Prelude.{flat_map}
use Rattle.std.specs.List.{range_with_len}
use Rattle.xsk_judge.specs.Stands.{Line, StandsFor}
use Rattle.xsk_recording.specs.Text.{Beside}
use Rattle.xsk_hints.specs.Wakes.{Wakens, wake_lines}
use Rattle.xsk_hints.proofs.wakes.push_wakes.Given as goal

abbrev pub invariant-loop-socket : goal.invariant-loop-socket
invariant-loop-socket l = (lines : List Line) (asides : List Beside) → StandsFor l.setting l.judge lines → Wakens l.wakes asides
    → l.text.items ≡ l.initial.text.items ++ flat_map (wake_lines l.setting lines asides) (range_with_len 0 l.socket)
