-- The items of a batch, as they lie in its places.
use Rattle.std.specs.Prelude.{ℕ, zero, suc, ◌+◌, ◌%◌, List, [], ◌∷◌, None, get_or}
use Rattle.xsk_umem.specs.declared.batch.Item.{Item}
use Rattle.xsk_umem.specs.Limits.{most_items}

-- what stands in a place that has no item
abbrev pub blank : Item
blank = record { frame = None; desc = record { addr = 0; len = 0; options = 0 } }

-- so many items, from a place on and round the end of the 32 places
abbrev pub items_from : List Item → ℕ → ℕ → List Item
items_from places at zero = []
items_from places at (suc count) = get_or places (at % most_items) blank ∷ items_from places (at + 1) count
