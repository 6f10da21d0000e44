-- The least of a number and of lists of others.
use Rattle.std.proofs.Common.{◌≡◌, ℕ, List, [], ◌∷◌, ◌++◌, min, refl}
use Rattle.xsk_model.specs.Config.{least}

pub least-append : (n : ℕ) (xs ys : List ℕ) → least n (xs ++ ys) ≡ least (least n xs) ys
least-append n [] ys = refl
least-append n (x ∷ xs) ys = least-append (min n x) xs ys
