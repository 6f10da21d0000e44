-- Places past the end of a list.
use Rattle.std.proofs.Common.{◌≡◌, ℕ, ◌+◌, ◌<◌, ◌≤◌, List, ◌∷◌, length, get_or, drop, ap, ◌∙◌}
use Rattle.std.proofs.Math.ListN.{set, get_or-eq_default}
use Rattle.std.proofs.lemmas.List.{drop_more}
use Rattle.std.proofs.lemmas.List as lists

pub set_past : {X : Type 0} (xs : List X) (i : ℕ) (y : X) → length xs ≤ i → set xs i y ≡ xs
set_past xs i y past = lists.set_past xs i y past

pub get_past : {X : Type 0} (xs : List X) (i : ℕ) (d : X) → length xs ≤ i → get_or xs i d ≡ d
get_past xs i d past = get_or-eq_default xs d past

-- the first of what is left from a place on
pub next_at : {X : Type 0} (xs : List X) (i : ℕ) (x : X) → i < length xs → get_or xs i x ≡ x → drop i xs ≡ x ∷ drop (i + 1) xs
next_at xs i x below is = drop_more xs i x below ∙ ap (λ (y : _). y ∷ drop (i + 1) xs) is
