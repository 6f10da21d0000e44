-- How much the first lines of a recording tell at most.
use Rattle.std.specs.Prelude.{ℕ, ◌*◌, ◌≤◌, length}
use Rattle.xsk_side.specs.Setting.{Setting}
use Rattle.xsk_side.specs.Local.{strays_given}
use Rattle.xsk_recording.specs.Text.{Read, most_lines}
use Rattle.xsk_recording.specs.Verdict.{calls_of}

-- a line has one call at most, and a call 32 entries
abbrev pub IsCounted : Read → Type 0
IsCounted r = (length r.calls ≤ r.lines) × (r.lines ≤ most_lines) × ((s : Setting) (d : ℕ) → strays_given s d (calls_of r.calls) ≤ 32 * r.lines)
