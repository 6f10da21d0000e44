-- How many calls each caller made.
use Rattle.std.specs.Prelude.{◌≡◌, ℕ, List, length}
use Rattle.std.specs.List.{slice_index_or}
use Rattle.xsk_model.specs.Entry.{Entry, own}

-- by caller; those behind the last made none
abbrev pub AreCounts : List ℕ → List Entry → Type 0
AreCounts counts past = (who : ℕ) → slice_index_or counts who 0 ≡ length (own who past)
