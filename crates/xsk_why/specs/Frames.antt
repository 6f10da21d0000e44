-- The numbers of frames as ranges, in the order in which the frames stand. The form is this project's own.
use Rattle.std.specs.Prelude.{ℕ, ◌+◌, ◌==◌, if◌then◌else◌, Option, Some, None, List, [], ◌∷◌, ◌++◌, codes}
use Rattle.xsk_why.specs.Numbered.{numbered}
use Rattle.xsk_why.specs.declared.frames.Range.{Range}

abbrev pub range_of : ℕ → ℕ → Range
range_of first last = record { first = first; last = last }

-- the end of a range, which one number hasn't got
abbrev pub range_end : Range → List ℕ
range_end range = if range.first == range.last then [] else numbered (codes "-") range.last

-- the ranges of numbers, where one may have begun before
abbrev pub ranges_from : Option Range → List ℕ → List ℕ
ranges_from None [] = []
ranges_from None (n ∷ ns) = numbered (codes " ") n ++ ranges_from (Some (range_of n n)) ns
ranges_from (Some range) [] = range_end range
ranges_from (Some range) (n ∷ ns) =
    if n == range.last + 1 then ranges_from (Some (range_of range.first n)) ns
    else range_end range ++ (numbered (codes " ") n ++ ranges_from (Some (range_of n n)) ns)

-- each behind a space
abbrev pub ranges : List ℕ → List ℕ
ranges ns = ranges_from None ns
