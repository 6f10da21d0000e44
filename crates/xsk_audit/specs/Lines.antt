-- The lines of a text, and those of a journal in it.
use Rattle.std.specs.Prelude.{ℕ, ◌==◌, Bool, false, if◌then◌else◌, List, [], ◌∷◌}
use Rattle.std.specs.Char.{is_ascii_digit}

-- a byte before the lines of the text behind it, where it isn't a line feed
abbrev pub in_front : ℕ → List (List ℕ) → List (List ℕ)
in_front b [] = (b ∷ []) ∷ []
in_front b (line ∷ lines) = (b ∷ line) ∷ lines

-- the lines of a text, each with its line feed; the last may have none
unfoldable pub lines_of : List ℕ → List (List ℕ)
lines_of [] = []
lines_of (b ∷ bs) = if b == 10 then (b ∷ []) ∷ lines_of bs else in_front b (lines_of bs)

abbrev pub begins_digit : List ℕ → Bool
begins_digit [] = false
begins_digit (b ∷ bs) = is_ascii_digit b

-- the lines of the journal: all from the first on that begins with a digit
unfoldable pub journal_of : List (List ℕ) → List (List ℕ)
journal_of [] = []
journal_of (line ∷ lines) = if begins_digit line then line ∷ lines else journal_of lines

-- the lines before them
unfoldable pub report_of : List (List ℕ) → List (List ℕ)
report_of [] = []
report_of (line ∷ lines) = if begins_digit line then [] else line ∷ report_of lines
