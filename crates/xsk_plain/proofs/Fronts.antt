-- An item of a store by its place.
use Rattle.std.proofs.Common.{◌≡◌, ℕ, zero, suc, Some, None, List, [], ◌∷◌, slice_get, map, ap, refl}
use Rattle.std.specs.Option.{option_map}
use Rattle.xsk_umem.specs.declared.batch.Item.{Item}
use Rattle.xsk_plain.specs.Counts.{number_of}
use Rattle.xsk_plain.specs.Stores.{stored_item_of}
use Rattle.xsk_plain.specs.declared.ring_store.Stored.{Stored}

pub item_here : (stores : List Stored) (i : ℕ) (item : Item) → slice_get (map stored_item_of stores) i ≡ Some item
    → (stored : Stored) × (slice_get stores i ≡ Some stored) × (option_map number_of stored.item.frame ≡ option_map number_of item.frame)
item_here [] i item is = let no : None ≡ Some item = is in absurd (cc)
item_here (x ∷ xs) zero item is =
    let one : x.item ≡ item = cc in
    (x, refl, ap (λ (y : Item). option_map number_of y.frame) one)
item_here (x ∷ xs) (suc i) item is = item_here xs i item is
