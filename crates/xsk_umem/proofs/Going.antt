-- What is left of a list after its next element was taken.
use Rattle.std.proofs.Common.{◌≡◌, ℕ, ◌+◌, List, ◌∷◌, Some, slice_get, drop, ap, ◌∙◌}
use Rattle.std.proofs.lemmas.List.{drop_more}
use Rattle.std.proofs.lemmas.Option.{get_or_from_slice_get, slice_get_within}

pub first_left : {X : Type 0} (xs : List X) (i : ℕ) (x : X) → slice_get xs i ≡ Some x → drop i xs ≡ x ∷ drop (i + 1) xs
first_left xs i x is =
    drop_more xs i x (slice_get_within xs i x is) ∙ ap (λ first. first ∷ drop (i + 1) xs) (get_or_from_slice_get xs i x x is)
