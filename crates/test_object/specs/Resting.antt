-- What the tests say of the passes of a table.
use Rattle.std.specs.Prelude.{◌≡◌, ℕ, ◌<◌, List, length, get_or, Option, None}
use Rattle.xsk_table.specs.Held.{Board, Holder}
use Rattle.xsk_rings.specs.Rounds.{Rests}

-- so many passes were taken
abbrev pub AreTaken : Board → ℕ → List (Option Holder) → Type 0
AreTaken b count passes = (length passes ≡ count) × ((w : ℕ) → w < count → get_or passes w None ≡ None)

-- the pass of each of the first callers belongs to the table, and has no call in flight
abbrev pub AllRest : Board → ℕ → List Holder → Type 0
AllRest b count checked = (length checked ≡ count) × ((w : ℕ) (d : Holder) → w < count → Rests b (get_or checked w d) × ((get_or checked w d).who ≡ w))
