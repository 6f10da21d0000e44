-- A list in which equal values are kept once, the values that are kept, and the further ones for which room is reserved.
use Rattle.std.specs.Prelude.{◌≡◌, ℕ, ◌<◌, Option, Some, None, List, [], ◌∷◌, ◌++◌, All, slice_get}
use Rattle.std.specs.List.{flat_map}

pub record Repeats (T : Type 0) : Type 0 where
  pub values : List T
  pub items : List T
  pub spare : ℕ

abbrev pub of_option : {T : Type 0} → Option T → List T
of_option None = []
of_option (Some value) = value ∷ []

-- the values at these places, in order
abbrev pub values_at : {T : Type 0} → List T → List ℕ → List T
values_at values places = flat_map (λ (place : ℕ). of_option (slice_get values place)) places

-- each place is that of one of so many values
abbrev pub AreBelow : ℕ → List ℕ → Type 0
AreBelow count places = All (λ (place : ℕ). place < count) places

-- other values may have come behind those that there were
pub record KeepsValues {T : Type 0} (old new : List T) : Type 0 where
  pub more : List T
  pub is : new ≡ old ++ more
