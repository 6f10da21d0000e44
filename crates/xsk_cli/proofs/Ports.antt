-- What holds of each port, one port after another.
use Rattle.std.proofs.Common.{◌≡◌, ℕ, zero, suc, ◌+◌, ◌*◌, ◌<◌, ◌≤◌, ltb, true, false, List, [], ◌∷◌, ◌++◌, length, get_or, map, refl, sym, ap, ◌∙◌, subst, ⊎_elim, arith}
use Rattle.std.specs.Prelude.{sum_by}
use Rattle.std.specs.List.{range_with_len}
use Rattle.std.proofs.Math.Nat.{eq-or-lt_of_le}
use Rattle.std.proofs.Math.ListN.{get_or-append}
use Rattle.std.proofs.Math.Seq.{get_or-append_seam}
use Rattle.std.proofs.lemmas.List.Sums.{sum_by-append}
use Rattle.std.proofs.lemmas.List.FromFn.{map-range_with_len_more}
use Rattle.std.proofs.lemmas.Bool.Decides.{nat_tests}

pub step : (P : ℕ → Type 0) (n : ℕ) → ((i : ℕ) → i < n → P i) → P n → (i : ℕ) → i < n + 1 → P i
step P n before here i h =
    let below : i ≤ n = omega arith in
    ⊎_elim (λ (e : i ≡ n). subst P (sym e) here) (λ (l : i < n). before i l) (eq-or-lt_of_le below)

pub last_of : {X : Type 0} (d : X) (xs : List X) (x : X) (n : ℕ) → length xs ≡ n → get_or (xs ++ x ∷ []) n d ≡ x
last_of d xs x n count = ap (λ k. get_or (xs ++ x ∷ []) k d) (sym count) ∙ get_or-append_seam xs x [] d

pub push_each : {X : Type 0} (P : ℕ → X → Type 0) (d : X) (xs : List X) (x : X) (n : ℕ) → length xs ≡ n → ((i : ℕ) → i < n → P i (get_or xs i d)) → P n x
    → (i : ℕ) → i < n + 1 → P i (get_or (xs ++ x ∷ []) i d)
push_each P d xs x n count before here =
    step (λ i. P i (get_or (xs ++ x ∷ []) i d)) n
    (λ i l. subst (P i) (sym (get_or-append xs (x ∷ []) d i (omega (arith, count, l)))) (before i l))
    (subst (P n) (sym (last_of d xs x n count)) here)

-- ---- ports below a number

pub none_below : (port : ℕ) → false ≡ ltb port 0
none_below port = grind (arith, nat_tests)

pub not_below_itself : (n port : ℕ) → port ≡ n → false ≡ ltb port n
not_below_itself n port h = grind (arith, nat_tests)

pub below_next : (n port : ℕ) → port ≡ n → true ≡ ltb port (n + 1)
below_next n port h = grind (arith, nat_tests)

pub below_as_before : (n port : ℕ) → (port ≡ n → ⊥) → ltb port n ≡ ltb port (n + 1)
below_as_before n port h = grind (arith, nat_tests)

-- lists with the same elements
pub same_lists : {X : Type 0} (d : X) (xs ys : List X) → length xs ≡ length ys → ((i : ℕ) → i < length xs → get_or xs i d ≡ get_or ys i d) → xs ≡ ys
same_lists d [] [] count each = refl
same_lists d [] (y ∷ ys) count each = absurd (omega (arith, count))
same_lists d (x ∷ xs) [] count each = absurd (omega (arith, count))
same_lists d (x ∷ xs) (y ∷ ys) count each =
    let first : x ≡ y = each 0 (omega arith) in
    let others : xs ≡ ys = same_lists d xs ys (omega (arith, count)) (λ i h. each (suc i) (omega (arith, h))) in
    ap (λ z. z ∷ xs) first ∙ ap (λ zs. y ∷ zs) others

-- what two functions make of the ports
pub same_map : {X : Type 0} (f g : ℕ → X) (a n : ℕ) → ((i : ℕ) → i < a + n → f i ≡ g i) → map f (range_with_len a n) ≡ map g (range_with_len a n)
same_map f g a zero each = refl
same_map f g a (suc n) each =
    ap (λ x. x ∷ map f (range_with_len (a + 1) n)) (each a (omega arith)) ∙ ap (λ xs. g a ∷ xs) (same_map f g (a + 1) n (λ i h. each i (omega (arith, h))))

-- of one port more
pub more_ports : {X : Type 0} (f : ℕ → X) (n : ℕ) → map f (range_with_len 0 (n + 1)) ≡ map f (range_with_len 0 n) ++ f n ∷ []
more_ports f n = map-range_with_len_more f 0 n n (omega arith)

-- a sum of few numbers
pub small_sum : {X : Type 0} (f : X → ℕ) (d : X) (xs : List X) → ((i : ℕ) → i < length xs → f (get_or xs i d) ≤ 34603032) → sum_by f xs ≤ length xs * 34603032
small_sum f d [] each = omega arith
small_sum f d (x ∷ xs) each =
    let first : f x ≤ 34603032 = each 0 (omega arith) in
    let sum : sum_by f (x ∷ xs) ≡ sum_by f (x ∷ []) + sum_by f xs = sum_by-append f (x ∷ []) xs in
    omega (arith, first, sum, small_sum f d xs (λ i h. each (suc i) (omega (arith, h))))
