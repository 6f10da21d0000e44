-- Which looks at a word are no looks at another side's count.
use Rattle.std.specs.Prelude.{◌≡◌, ℕ, List, [], ◌∷◌}
use Rattle.xsk_model.specs.Config.{Config, IsConfig}
use Rattle.xsk_model.specs.Rings as rings
use Rattle.xsk_table.specs.Layout.{Word, producer, consumer, entry, second, mark, HasWord, word_at}

-- a count that the one caller writes itself, or no count
abbrev pub IsOwnOrNone : Config → List ℕ → Word → Type 0
IsOwnOrNone c callers (producer r) = callers ≡ rings.producer c r ∷ []
IsOwnOrNone c callers (consumer r) = callers ≡ rings.consumer c r ∷ []
IsOwnOrNone c callers (entry r i) = Unit {0}
IsOwnOrNone c callers (second r i) = Unit {0}
IsOwnOrNone c callers (mark m) = Unit {0}

-- so the place is of such a word, and of no other, as each word has a place of its own
abbrev pub IsUncounted : Config → List ℕ → ℕ → Type 0
IsUncounted c callers place = IsConfig c → (w : Word) × HasWord c w × (place ≡ word_at c w) × IsOwnOrNone c callers w
