-- The journal of a run: for each call a line with its round in front. This project's own.
use Rattle.std.specs.Prelude.{ℕ, List, [], ◌∷◌, ◌++◌, codes, length}
use Rattle.std.specs.Fmt.{decimal}
use Rattle.xsk_model.specs.Entry.{Entry, own}
use Rattle.xsk_log.specs.Line.{line_of}

-- The round of an entry after past ones, counted from 0: each caller makes one call in each round until it has ended, so it is
-- the number of the calls that the entry's caller made before (`laws::entries_stand_in_rounds`).
abbrev pub round_of : List Entry → Entry → ℕ
round_of past e = length (own e.who past)

abbrev pub rounds_from : List Entry → List Entry → List ℕ
rounds_from past [] = []
rounds_from past (e ∷ es) = round_of past e ∷ rounds_from (past ++ e ∷ []) es

-- the rounds of the entries of a history, one for each
abbrev pub rounds_of : List Entry → List ℕ
rounds_of h = rounds_from [] h

-- the line of an entry after past ones, where the configuration has so many pairs
abbrev pub journal_line : ℕ → List Entry → Entry → List ℕ
journal_line pairs past e = decimal (round_of past e) ++ codes " " ++ line_of pairs e

abbrev pub journal_from : ℕ → List Entry → List Entry → List ℕ
journal_from pairs past [] = []
journal_from pairs past (e ∷ es) = journal_line pairs past e ++ journal_from pairs (past ++ e ∷ []) es

abbrev pub journal_of : ℕ → List Entry → List ℕ
journal_of pairs h = journal_from pairs [] h
