-- Frame numbers: those of a list of items, how often a number stands in a list, and a list without some of its numbers.
-- The frames of a caller or a ring are compared by counting: a frame is never copied, so its number stands once in all.
use Rattle.std.specs.Prelude.{ℕ, ◌+◌, ◌==◌, if◌then◌else◌, Option, Some, None, List, [], ◌∷◌, ◌++◌}
use Rattle.xsk_umem.specs.Frame.{Frame}
use Rattle.xsk_umem.specs.declared.batch.Item.{Item}

-- how often a number stands in a list
abbrev pub times : ℕ → List ℕ → ℕ
times n [] = 0
times n (x ∷ xs) = (if x == n then 1 else 0) + times n xs

-- the list without the first place of a number
abbrev pub without_one : ℕ → List ℕ → List ℕ
without_one m [] = []
without_one m (x ∷ xs) = if x == m then xs else x ∷ without_one m xs

-- the list without the first place of each of some numbers
abbrev pub without : List ℕ → List ℕ → List ℕ
without [] xs = xs
without (m ∷ ms) xs = without ms (without_one m xs)

-- the number of an item's frame, if it has one
abbrev pub number_of : Option Frame → List ℕ
number_of None = []
number_of (Some frame) = frame.number ∷ []

-- the numbers of the frames of items, in order
abbrev pub numbers : List Item → List ℕ
numbers [] = []
numbers (item ∷ items) = number_of item.frame ++ numbers items
