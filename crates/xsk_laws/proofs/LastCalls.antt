-- The last of a list of calls and their replies.
use Rattle.std.proofs.Common.{◌≡◌, List, [], ◌∷◌, ◌++◌, refl, sym, ap, ◌∙◌}
use Rattle.xsk_model.specs.Entry.{Told}

abbrev last_or : Told → List Told → Told
last_or d [] = d
last_or d (x ∷ xs) = last_or x xs

last_or-push : (d : Told) (xs : List Told) (x : Told) → last_or d (xs ++ x ∷ []) ≡ x
last_or-push d [] x = refl
last_or-push d (y ∷ ys) x = last_or-push y ys x

-- lists that are the same have the same last element
pub same_last : (xs ys : List Told) (x y : Told) → xs ++ x ∷ [] ≡ ys ++ y ∷ [] → x ≡ y
same_last xs ys x y same = sym (last_or-push x xs x) ∙ ap (last_or x) same ∙ last_or-push x ys y
