-- Parts of lists, as places and lengths.
use Rattle.std.specs.Prelude.{◌≡◌, ℕ, ◌+◌, ◌≤◌, List, ◌++◌, length, take, drop}
use Rattle.xsk_log.specs.declared.log.Extent.{Extent}

abbrev pub at_extent : {A : Type 0} → List A → Extent → List A
at_extent xs extent = take extent.len (drop extent.start xs)

abbrev pub IsWithin : {A : Type 0} → List A → Extent → Type 0
IsWithin xs extent = extent.start + extent.len ≤ length xs

-- bytes were appended
pub record Grows (old new : List ℕ) : Type 0 where
  pub more : List ℕ
  pub is : new ≡ old ++ more
