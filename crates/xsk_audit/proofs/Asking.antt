-- A call whose items were given frames.
use Rattle.std.proofs.Common.{◌≡◌, List, [], length, ap, ◌∙◌}
use Rattle.std.proofs.lemmas.List.{nil_from_length}
use Rattle.xsk_umem.specs.declared.batch.Item.{Item}
use Rattle.xsk_model.specs.Asks.{HasAsked}
use Rattle.xsk_model.specs.declared.ask.Ask.{Ask}
use Rattle.xsk_model.specs.declared.ask.Ask.TheVariants.{Reserve, Submit, Peek, Release, Swap, Look}

none-too : (items told : List Item) → length items ≡ length told → told ≡ [] → items ≡ []
none-too items told same none = nil_from_length items (same ∙ ap (λ (xs : List Item). length xs) none)

pub asks-too : (ask : Ask) (items told : List Item) → length items ≡ length told → HasAsked ask told → HasAsked ask items
asks-too (Reserve r n) items told same has = none-too items told same has
asks-too (Submit r) items told same has = tt
asks-too (Peek r n) items told same has = none-too items told same has
asks-too (Release r n) items told same has = none-too items told same has
asks-too (Swap m value) items told same has = none-too items told same has
asks-too (Look m) items told same has = none-too items told same has
