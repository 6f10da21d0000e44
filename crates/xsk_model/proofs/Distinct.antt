-- Inclusion by counting says of frames that a caller has once each that it has them and that they are distinct.
use Rattle.std.proofs.Common.{◌≡◌, ◌≢◌, ℕ, zero, suc, ◌<◌, ◌≤◌, cond, eqb, List, [], ◌∷◌, length, get_or, All, AllPairs, Contains, refl, sym, ap, ◌∙◌, ⊎_elim, arith}
use Rattle.std.proofs.lemmas.Bool.{cases_eq, cases_lt}
use Rattle.std.proofs.lemmas.Bool.Decides.{nat_tests}
use Rattle.std.proofs.lemmas.List.{get_or_default}
use Rattle.xsk_model.specs.Numbers.{times}
use Rattle.xsk_model.proofs.Counting.{its_own}

-- another number counts for nothing
pub elsewhere : (x n : ℕ) → (x ≡ n → ⊥) → ◌≡◌ {A = ℕ} (cond (eqb x n) 1 0) 0
elsewhere x n h = grind (arith, nat_tests)

-- a number stands in a list exactly where it stands there once at least
pub Contains-times : (xs : List ℕ) (n : ℕ) → Contains xs n → 1 ≤ times n xs
Contains-times [] n h = absurd (omega (arith, h.1))
Contains-times (x ∷ xs) n h = contained xs x n h.0 h.1 h.2 (λ k. Contains-times xs n k)
  where
    contained : (xs : List ℕ) (x n k : ℕ) → k < length (x ∷ xs) → get_or (x ∷ xs) k n ≡ n → (Contains xs n → 1 ≤ times n xs) → 1 ≤ times n (x ∷ xs)
    contained xs x n zero within is rest = omega (arith, its_own x n is)
    contained xs x n (suc k) within is rest = omega (arith, rest (k, omega arith, is))

pub times-Contains : (xs : List ℕ) (n : ℕ) → 1 ≤ times n xs → Contains xs n
times-Contains [] n h = absurd (omega arith)
times-Contains (x ∷ xs) n h = ⊎_elim
    (λ (e : x ≡ n). (0, omega arith, e))
    (λ (e : x ≡ n → ⊥).
    let rest : Contains xs n = times-Contains xs n (omega (arith, elsewhere x n e)) in
    (suc rest.0, omega (arith, rest.1), rest.2))
    (cases_eq x n)

-- numbers are distinct exactly where none stands twice
pub times-distinct : (xs : List ℕ) → AllPairs (λ (m n : ℕ). m ≢ n) xs → (n : ℕ) → times n xs ≤ 1
times-distinct [] h n = omega arith
times-distinct (x ∷ xs) h n =
    let rest : times n xs ≤ 1 = times-distinct xs (λ i j d less within. h (suc i) (suc j) d (omega arith) (omega arith)) n in
    ⊎_elim
    (λ (e : x ≡ n).
    let none : times n xs ≤ 0 = none_later xs x n e (λ k within. h 0 (suc k) n (omega arith) (omega arith)) in
    omega (arith, its_own x n e, none))
    (λ (e : x ≡ n → ⊥). omega (arith, elsewhere x n e, rest))
    (cases_eq x n)
  where
    none_later : (xs : List ℕ) (x n : ℕ) → x ≡ n → ((k : ℕ) → k < length xs → x ≢ get_or xs k n) → times n xs ≤ 0
    none_later xs x n e apart = ⊎_elim
        (λ (some : 0 < times n xs).
        let at : Contains xs n = times-Contains xs n some in
        absurd (apart at.0 at.1 (e ∙ sym at.2)))
        (λ (none : times n xs ≤ 0). none)
        (cases_lt 0 (times n xs))

pub distinct_from_times : (xs : List ℕ) → ((n : ℕ) → times n xs ≤ 1) → AllPairs (λ (m n : ℕ). m ≢ n) xs
distinct_from_times [] h i j d less within = absurd (omega arith)
distinct_from_times (x ∷ xs) h zero zero d less within = absurd (omega arith)
distinct_from_times (x ∷ xs) h zero (suc j) d less within = λ (e : x ≡ get_or xs j d).
    let later : Contains xs x = (j, omega arith, get_or_default xs j x d (omega arith) ∙ sym e) in
    absurd (omega (arith, h x, its_own x x refl, Contains-times xs x later))
distinct_from_times (x ∷ xs) h (suc i) zero d less within = absurd (omega arith)
distinct_from_times (x ∷ xs) h (suc i) (suc j) d less within =
    distinct_from_times xs (λ n. omega (arith, h n)) i j d (omega arith) (omega arith)

-- numbers among others that stand once each
pub had_and_distinct : (xs had : List ℕ) → ((n : ℕ) → times n had ≤ 1) → ((n : ℕ) → times n xs ≤ times n had)
    → All (λ n. Contains had n) xs × AllPairs (λ (m n : ℕ). m ≢ n) xs
had_and_distinct xs had once h = (
  λ k d within.
      let at : Contains xs (get_or xs k d) = (k, within, get_or_default xs k (get_or xs k d) d within) in
      times-Contains had (get_or xs k d) (omega (arith, h (get_or xs k d), Contains-times xs (get_or xs k d) at)),
  distinct_from_times xs (λ n. omega (arith, h n, once n)),
)

pub times-had_and_distinct : (xs had : List ℕ) → All (λ n. Contains had n) xs → AllPairs (λ (m n : ℕ). m ≢ n) xs
    → (n : ℕ) → times n xs ≤ times n had
times-had_and_distinct xs had has apart n = ⊎_elim
    (λ (some : 0 < times n xs).
    let at : Contains xs n = times-Contains xs n some in
    let mine : Contains had (get_or xs at.0 n) = has at.0 n at.1 in
    let same = ap (λ m. times m had) at.2 in
    omega (arith, times-distinct xs apart n, Contains-times had (get_or xs at.0 n) mine, same))
    (λ (none : times n xs ≤ 0). omega arith)
    (cases_lt 0 (times n xs))
