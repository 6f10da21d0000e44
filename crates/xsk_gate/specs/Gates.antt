-- Whom the gates hold in their first turns, and for how many looks at most. This project's own.
use Rattle.std.specs.Prelude.{ℕ}

-- where a gate isn't made with another number
abbrev pub most_looks : ℕ
most_looks = 1000000

pub record Pair : Type 0 where
  pub first : ℕ
  pub second : ℕ
  pub looks : ℕ

pub record Hold : Type 0 where
  pub worker : ℕ
  pub looks : ℕ
