use Rattle.std.proofs.Common.{◌≡◌, ◌*◌, ◌≤◌, take}
use Rattle.std.specs.List.{sum}
use Rattle.xsk_table.specs.Layout.{widths_of}
use Rattle.xsk_table.proofs.layout.words_before.Given as goal

abbrev pub invariant-loop-place : goal.invariant-loop-place
invariant-loop-place l = (l.words ≡ sum (take l.place (widths_of l.config))) × (l.words ≤ 4128 * l.place)
