-- Histories in rounds: in each round each caller whose own calls and replies so far aren't a whole run makes one call, in
-- the round's order. Which lists are whole runs is a parameter.
use Rattle.std.specs.Prelude.{◌≡◌, ℕ, zero, suc, ◌⊎◌, List, [], ◌∷◌, ◌++◌, length, replicate}
use Rattle.xsk_model.specs.Entry.{Told, Entry, own}
use Rattle.xsk_sim.specs.Order.{number_at, start_of, rotated}

-- a caller's turn after past entries: none where its own are a whole run, and else one entry of its own
abbrev pub IsTurn : (ℕ → List Told → Type 0) → List Entry → ℕ → List Entry → Type 0
IsTurn Whole past who es =
    (Whole who (own who past) × (es ≡ [])) ⊎ ((Whole who (own who past) → ⊥) × ((e : Entry) × (e.who ≡ who) × (es ≡ e ∷ [])))

-- the turns of callers, one after the other
abbrev pub AreTurns : (ℕ → List Told → Type 0) → List Entry → List ℕ → List Entry → Type 0
AreTurns Whole past [] es = es ≡ []
AreTurns Whole past (who ∷ later) es =
    (turn rest : List Entry) × (es ≡ turn ++ rest) × IsTurn Whole past who turn × AreTurns Whole (past ++ turn) later rest

-- the entries of a round, counted from 0, after those of the rounds before it
abbrev pub IsRound : (ℕ → List Told → Type 0) → ℕ → ℕ → ℕ → List Entry → List Entry → Type 0
IsRound Whole callers order round past es = AreTurns Whole past (rotated callers (start_of callers (number_at order round))) es

-- the entries of so many rounds, from the first on
abbrev pub AreRounds : (ℕ → List Told → Type 0) → ℕ → ℕ → ℕ → List Entry → Type 0
AreRounds Whole callers order zero h = h ≡ []
AreRounds Whole callers order (suc round) h =
    (past es : List Entry) × (h ≡ past ++ es) × AreRounds Whole callers order round past × IsRound Whole callers order round past es

-- the rounds of the entries of so many rounds, one for each entry: first those of all rounds but the last, and then the last
-- round's number for each of its entries
abbrev pub AreInRounds : (ℕ → List Told → Type 0) → ℕ → ℕ → ℕ → List Entry → List ℕ → Type 0
AreInRounds Whole callers order zero h rounds = (h ≡ []) × (rounds ≡ [])
AreInRounds Whole callers order (suc round) h rounds =
    (past es : List Entry) × (before : List ℕ) × (h ≡ past ++ es) × (rounds ≡ before ++ replicate (length es) round)
    × AreInRounds Whole callers order round past before × IsRound Whole callers order round past es
