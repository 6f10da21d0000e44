-- Lists that are made or overwritten from the front on.
use Rattle.std.proofs.Common.{◌≡◌, ℕ, ◌+◌, ◌<◌, Some, List, [], ◌∷◌, ◌++◌, length, map, take, drop, get_or, sym, ap, ◌∙◌, subst, arith, append_assoc}
use Rattle.std.specs.List.{slice_get}
use Rattle.std.proofs.Math.ListN.{set}
use Rattle.std.proofs.Math.Seq.{set-append_seam}
use Rattle.std.proofs.lemmas.List.{drop_more, take_more, length-take-le, get_or-map, length-map}
use Rattle.std.proofs.lemmas.Option.{get_or_from_slice_get, slice_get_within}

-- one place more is overwritten
pub put_next : {X Y : Type 0} (f : X → Y) (xs : List X) (ys : List Y) (i : ℕ) (x : X) → slice_get xs i ≡ Some x → i < length ys
    → set (take i (map f xs) ++ drop i ys) i (f x) ≡ take (i + 1) (map f xs) ++ drop (i + 1) ys
put_next f xs ys i x is below =
    let within : i < length xs = slice_get_within xs i x is in
    let front = take i (map f xs) in
    let rest = drop (i + 1) ys in
    let len : length front ≡ i = length-take-le i (map f xs) (omega (arith, length-map xs f, within)) in
    let last : get_or (map f xs) i (f x) ≡ f x = get_or-map f xs i x (f x) within ∙ ap f (get_or_from_slice_get xs i x x is) in
    let more : take (i + 1) (map f xs) ≡ front ++ f x ∷ [] =
    take_more (map f xs) i (f x) (omega (arith, length-map xs f, within)) ∙ ap (λ (y : _). front ++ y ∷ []) last in
    ap (λ (l : List _). set (front ++ l) i (f x)) (drop_more ys i (f x) below)
    ∙ subst (λ (n : ℕ). set (front ++ get_or ys i (f x) ∷ rest) n (f x) ≡ front ++ f x ∷ rest) len (set-append_seam front (get_or ys i (f x)) rest (f x))
    ∙ sym (ap (λ (l : List _). l ++ rest) more ∙ append_assoc front (f x ∷ []) rest)
