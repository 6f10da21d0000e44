-- How often numbers stand in lists that are made of others.
use Rattle.std.proofs.Common.{◌≡◌, ℕ, zero, suc, ◌+◌, ◌-◌, ◌<◌, ◌≤◌, Bool, true, false, cond, eqb, List, [], ◌∷◌, ◌++◌, length, get_or, set, flat_map, refl, sym, ap, ◌∙◌, append_assoc, arith, zero-add, ⊎_elim}
use Rattle.std.proofs.lemmas.Bool.{cases_eq}
use Rattle.std.specs.List.{range_with_len}
use Rattle.std.proofs.lemmas.Bool.Decides.{nat_tests}
use Rattle.xsk_umem.specs.declared.batch.Item.{Item}
use Rattle.xsk_model.specs.Numbers.{times, without_one, without, number_of, numbers}

pub times-append : (n : ℕ) (xs ys : List ℕ) → times n (xs ++ ys) ≡ times n xs + times n ys
times-append n [] ys = sym (zero-add (times n ys))
times-append n (x ∷ xs) ys = omega (arith, times-append n xs ys)

-- the test in each is one on a `Bool`
pub times-cond : (n : ℕ) (b : Bool) (xs ys : List ℕ) → times n (cond b xs ys) ≡ cond b (times n xs) (times n ys)
times-cond n true xs ys = refl
times-cond n false xs ys = refl

less_one : (n m x a b : ℕ) → b ≡ a - cond (eqb m n) 1 0 → cond (eqb x m) a (cond (eqb x n) 1 0 + b) ≡ cond (eqb x n) 1 0 + a - cond (eqb m n) 1 0
less_one n m x a b h = grind (arith, nat_tests)

pub times-without_one : (n m : ℕ) (xs : List ℕ) → times n (without_one m xs) ≡ times n xs - cond (eqb m n) 1 0
times-without_one n m [] = omega arith
times-without_one n m (x ∷ xs) =
    times-cond n (eqb x m) xs (x ∷ without_one m xs) ∙ less_one n m x (times n xs) (times n (without_one m xs)) (times-without_one n m xs)

pub times-without : (n : ℕ) (ms xs : List ℕ) → times n (without ms xs) ≡ times n xs - times n ms
times-without n [] xs = omega arith
times-without n (m ∷ ms) xs = omega (arith, times-without n ms (without_one m xs), times-without_one n m xs)

pub numbers-append : (xs ys : List Item) → numbers (xs ++ ys) ≡ numbers xs ++ numbers ys
numbers-append [] ys = refl
numbers-append (x ∷ xs) ys = rw (numbers-append xs ys) (sym (append_assoc (number_of x.frame) (numbers xs) (numbers ys)))

-- joined lists after one piece has been put in another's place
pub times-flat_map-set : {X : Type 0} (n : ℕ) (f : X → List ℕ) (xs : List X) (i : ℕ) (y d : X) → i < length xs
    → times n (flat_map f (set xs i y)) + times n (f (get_or xs i d)) ≡ times n (flat_map f xs) + times n (f y)
times-flat_map-set n f [] i y d h = absurd (omega arith)
times-flat_map-set n f (x ∷ xs) zero y d h = omega (arith, times-append n (f y) (flat_map f xs), times-append n (f x) (flat_map f xs))
times-flat_map-set n f (x ∷ xs) (suc i) y d h =
    let rest = times-flat_map-set n f xs i y d (omega arith) in
    omega (arith, rest, times-append n (f x) (flat_map f (set xs i y)), times-append n (f x) (flat_map f xs))

-- a row of numbers has each of its own once
not_it : (a n : ℕ) → n < a → ◌≡◌ {A = ℕ} (cond (eqb a n) 1 0) 0
not_it a n h = grind (arith, nat_tests)

pub not_yet : (a n : ℕ) → a < n → ◌≡◌ {A = ℕ} (cond (eqb a n) 1 0) 0
not_yet a n h = grind (arith, nat_tests)

pub its_own : (a n : ℕ) → a ≡ n → ◌≡◌ {A = ℕ} (cond (eqb a n) 1 0) 1
its_own a n h = grind (arith, nat_tests)

pub range-push : (a n : ℕ) → range_with_len a (suc n) ≡ range_with_len a n ++ (a + n) ∷ []
range-push a zero = let e : a ≡ a + 0 = omega arith in ap (λ k. k ∷ []) e
range-push a (suc n) = let e : a + 1 + n ≡ a + suc n = omega arith in ap (λ ks. a ∷ ks) (range-push (a + 1) n) ∙ ap (λ k. a ∷ (range_with_len (a + 1) n ++ k ∷ [])) e

pub times-range_below : (n a k : ℕ) → n < a → times n (range_with_len a k) ≡ 0
times-range_below n a zero h = refl
times-range_below n a (suc k) h = omega (arith, times-range_below n (a + 1) k (omega arith), not_it a n h)

pub times-range_past : (n a k : ℕ) → a + k ≤ n → times n (range_with_len a k) ≡ 0
times-range_past n a zero h = refl
times-range_past n a (suc k) h = omega (arith, times-range_past n (a + 1) k (omega arith), not_yet a n (omega arith))

pub times-range_within : (n a k : ℕ) → a ≤ n → n < a + k → times n (range_with_len a k) ≡ 1
times-range_within n a zero low high = absurd (omega arith)
times-range_within n a (suc k) low high = ⊎_elim
    (λ (e : a ≡ n). omega (arith, times-range_below n (a + 1) k (omega arith), its_own a n e))
    (λ (e : a ≡ n → ⊥).
    let after : a < n = omega arith in
    omega (arith, times-range_within n (a + 1) k (omega arith) (omega arith), not_yet a n after))
    (cases_eq a n)

-- ---- a list of distinct numbers below a bound is no longer than the bound

length-without_one : (m : ℕ) (xs : List ℕ) → length xs ≤ length (without_one m xs) + 1
length-without_one m [] = omega arith
length-without_one m (x ∷ xs) = shorter (eqb x m) x xs (without_one m xs) (length-without_one m xs)
  where
    shorter : (b : Bool) (y : ℕ) (ys zs : List ℕ) → length ys ≤ length zs + 1 → length (y ∷ ys) ≤ length (cond b ys (y ∷ zs)) + 1
    shorter true y ys zs h = omega arith
    shorter false y ys zs h = omega arith

pub length-by_times : (bound : ℕ) (xs : List ℕ) → ((n : ℕ) → times n xs ≤ 1) → ((n : ℕ) → bound ≤ n → times n xs ≡ 0) → length xs ≤ bound
length-by_times zero [] once none = omega arith
length-by_times zero (x ∷ xs) once none = absurd (omega (arith, none x (omega arith), its_own x x refl))
length-by_times (suc bound) xs once none =
    let fewer = length-by_times bound (without_one bound xs)
    (λ n. omega (arith, once n, times-without_one n bound xs))
    (λ n h. ⊎_elim
    (λ (e : bound ≡ n). omega (arith, times-without_one n bound xs, once n, its_own bound n e))
    (λ (e : bound ≡ n → ⊥). omega (arith, times-without_one n bound xs, none n (omega arith)))
    (cases_eq bound n)) in
    omega (arith, fewer, length-without_one bound xs)
