-- Sums over the views, and how often a number stands in a list.
use Rattle.std.proofs.Common.{◌≡◌, ◌≢◌, ℕ, zero, suc, ◌+◌, ◌<◌, ◌≤◌, List, [], ◌∷◌, ◌++◌, take, drop, set, sym, refl, ap, arith}
use mathlib.Core.Logic.{dite}
use native.Mathlib.Decide.{dec_le}
use mathlib.Core.Option.{some, some-injective, some-ne-none}
use lib.ListN.{get_elem?}
use Rattle.std.specs.List.{range_with_len}
use Rattle.std.proofs.lemmas.Bool.Decides.{nat_tests}
use Rattle.xsk_lock.specs.Rule.{times, total}

module _ {V : Type 0} (f : V → ℕ) where
  pub total_has : (vs : List V) (i : ℕ) (v : V) → get_elem? vs i ≡ some v → f v ≤ total f vs
  total_has [] i v e = absurd (some-ne-none v (sym e))
  total_has (x ∷ vs) zero v e = omega (arith, ap f (some-injective x v e))
  total_has (x ∷ vs) (suc i) v e = omega (arith, total_has vs i v e)

  pub total_two : (vs : List V) (i j : ℕ) (v w : V) → i ≢ j → get_elem? vs i ≡ some v → get_elem? vs j ≡ some w → f v + f w ≤ total f vs
  total_two [] i j v w n a b = absurd (some-ne-none v (sym a))
  total_two (x ∷ vs) zero zero v w n a b = absurd (n refl)
  total_two (x ∷ vs) zero (suc j) v w n a b = omega (arith, ap f (some-injective x v a), total_has vs j w b)
  total_two (x ∷ vs) (suc i) zero v w n a b = omega (arith, ap f (some-injective x w b), total_has vs i v a)
  total_two (x ∷ vs) (suc i) (suc j) v w n a b = omega (arith, total_two vs i j v w (λ e. n (ap suc e)) a b)

  pub total_set : (vs : List V) (i : ℕ) (v w : V) → get_elem? vs i ≡ some v → total f (set vs i w) + f v ≡ total f vs + f w
  total_set [] i v w e = absurd (some-ne-none v (sym e))
  total_set (x ∷ vs) zero v w e = omega (arith, ap f (some-injective x v e))
  total_set (x ∷ vs) (suc i) v w e = omega (arith, total_set vs i v w e)

  pub total_more : (vs : List V) (w : V) → total f (vs ++ w ∷ []) ≡ total f vs + f w
  total_more [] w = omega arith
  total_more (x ∷ vs) w = omega (arith, total_more vs w)

abbrev Counted : {V : Type 0} → (V → ℕ) → List V → Type 0
Counted {V} f vs = (j : ℕ) × (v : V) × (get_elem? vs j ≡ some v) × (1 ≤ f v)

-- who is counted
pub total_some : {V : Type 0} (f : V → ℕ) (vs : List V) → 1 ≤ total f vs → Counted f vs
total_some f [] h = absurd (omega arith)
total_some {V} f (x ∷ vs) h = dite (dec_le 1 (f x)) (λ d. (zero, x, refl, d)) (λ n. let t = total_some f vs (omega arith) in (suc t.0, t.1, t.2, t.3))

pub times_append : (h : ℕ) (xs ys : List ℕ) → times h (xs ++ ys) ≡ times h xs + times h ys
times_append h [] ys = omega arith
times_append h (x ∷ xs) ys = omega (arith, times_append h xs ys)

pub times_dealt : (h : ℕ) (xs : List ℕ) → times h (drop 1 xs) + times h (take 1 xs) ≡ times h xs
times_dealt h [] = refl
times_dealt h (x ∷ xs) = omega arith

pub times_first : (x : ℕ) (xs : List ℕ) → 1 ≤ times x (x ∷ xs)
times_first x xs = grind (arith, nat_tests)

pub times_range : (h a n : ℕ) → 1 ≤ times h (range_with_len a n) → (a ≤ h) × (h < a + n)
times_range h a zero p = absurd (omega arith)
times_range h a (suc n) p = let q = times_range h (a + 1) n in grind (arith, nat_tests)

pub times_range_few : (h a n : ℕ) → times h (range_with_len a n) ≤ 1
times_range_few h a zero = omega arith
times_range_few h a (suc n) = let q = times_range_few h (a + 1) n in let r = times_range h (a + 1) n in grind (arith, nat_tests)
