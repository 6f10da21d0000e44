-- Lines, as they are told: how many, the first and the last. The form is this project's own.
use Rattle.std.specs.Prelude.{ℕ, ◌+◌, ◌-◌, ◌^◌, ◌==◌, min, max, if◌then◌else◌, List, [], ◌∷◌, length}
use Rattle.xsk_judge.specs.declared.known.Known.{Known}
use Rattle.xsk_judge.specs.declared.known.Spot.{Spot}
use Rattle.xsk_judge.specs.Kept.{spot_by, is_spot}
use Rattle.xsk_hints.specs.declared.tally.Tally.{Tally}

abbrev pub earliest : List ℕ → ℕ
earliest [] = 0
earliest (line ∷ []) = line
earliest (line ∷ next ∷ lines) = min (earliest (next ∷ lines)) line

abbrev pub latest : List ℕ → ℕ
latest [] = 0
latest (line ∷ lines) = max (latest lines) line

-- a number of 64 bits counts them up to 2^64 - 1
abbrev pub most : ℕ
most = 2 ^ 64 - 1

abbrev pub tally_of : List ℕ → Tally
tally_of lines = record { count = min (length lines) most; first = earliest lines; last = latest lines }

abbrev pub no_tally : Tally
no_tally = record { count = 0; first = 0; last = 0 }

-- one line more
abbrev pub with_line : ℕ → Tally → Tally
with_line line t = record {
  count = min (t.count + 1) most;
  first = if t.count == 0 then line else min t.first line;
  last = max t.last line;
}

-- and that of a frame, where it is in a place
abbrev pub with_known : Spot → Known → Tally → Tally
with_known spot known t = if is_spot (spot_by known.place) spot then with_line known.since t else t
