-- Four lists one after another, read in each.
use Rattle.std.proofs.Common.{◌≡◌, ℕ, ◌+◌, ◌-◌, ◌<◌, List, ◌++◌, length, get_or, refl, ap, ◌∙◌, arith, length-append}
use Rattle.std.proofs.lemmas.List.{get_or_append_left, get_or-append_right}

module _ (a b x y : List ℕ) where
  pub in_first : (k : ℕ) → k < length a → get_or (a ++ b ++ x ++ y) k 0 ≡ get_or a k 0
  in_first k h =
      get_or_append_left (a ++ b ++ x) y 0 k (omega (arith, length-append (a ++ b) x, length-append a b))
      ∙ get_or_append_left (a ++ b) x 0 k (omega (arith, length-append a b)) ∙ get_or_append_left a b 0 k h

  pub in_second : (k i : ℕ) → i < length b → k ≡ length a + i → get_or (a ++ b ++ x ++ y) k 0 ≡ get_or b i 0
  in_second k i h is =
      get_or_append_left (a ++ b ++ x) y 0 k (omega (arith, length-append (a ++ b) x, length-append a b))
      ∙ get_or_append_left (a ++ b) x 0 k (omega (arith, length-append a b)) ∙ get_or-append_right a b (length a) k 0 refl (omega arith)
      ∙ (let e : k - length a ≡ i = omega arith in ap (λ j. get_or b j 0) e)

  pub in_third : (k i : ℕ) → i < length x → k ≡ length a + length b + i → get_or (a ++ b ++ x ++ y) k 0 ≡ get_or x i 0
  in_third k i h is =
      let e : k - (length a + length b) ≡ i = omega arith in
      get_or_append_left (a ++ b ++ x) y 0 k (omega (arith, length-append (a ++ b) x, length-append a b))
      ∙ get_or-append_right (a ++ b) x (length a + length b) k 0 (length-append a b) (omega arith) ∙ ap (λ j. get_or x j 0) e

  pub in_fourth : (k i : ℕ) → k ≡ length a + length b + length x + i → get_or (a ++ b ++ x ++ y) k 0 ≡ get_or y i 0
  in_fourth k i is =
      let e : k - (length a + length b + length x) ≡ i = omega arith in
      get_or-append_right (a ++ b ++ x) y (length a + length b + length x) k 0 (omega (arith, length-append (a ++ b) x, length-append a b)) (omega arith)
      ∙ ap (λ j. get_or y j 0) e
