-- Sums.
use Rattle.std.proofs.Common.{◌≡◌, ◌≢◌, ℕ, zero, suc, ◌+◌, ◌*◌, ◌<◌, ◌≤◌, cond, List, [], ◌∷◌, ◌++◌, refl, sym, ap, subst, ◌∙◌, ⊎_elim, arith, eq-eqb, ne_eqb, All}
use Rattle.std.proofs.lemmas.Bool.{cases_eq}
use Rattle.std.proofs.lemmas.List.Elements.{All-head, All-tail}
use Rattle.xsk_model.specs.Entry.{Told, Entry, told, own, all_told}
use Rattle.xsk_turns.specs.Totals.{total}
use Rattle.xsk_turns.proofs.Totals.{total-append}
use Rattle.xsk_bounds.specs.Totals.{sum_below}

pub total-push : {X : Type 0} (f : X → ℕ) (xs : List X) (x : X) → total f (xs ++ x ∷ []) ≡ total f xs + f x
total-push f xs x = omega (arith, total-append f xs (x ∷ []))

pub total-le : {X : Type 0} (f g : X → ℕ) (xs : List X) → ((x : X) → f x ≤ g x) → total f xs ≤ total g xs
total-le f g [] h = omega arith
total-le f g (x ∷ xs) h = omega (arith, h x, total-le f g xs h)

pub total-add : {X : Type 0} (f g : X → ℕ) (xs : List X) → total (λ x. f x + g x) xs ≡ total f xs + total g xs
total-add f g [] = omega arith
total-add f g (x ∷ xs) = omega (arith, total-add f g xs)

-- ---- sums of numbers

pub sum-le : (n : ℕ) (f g : ℕ → ℕ) → ((k : ℕ) → k < n → f k ≤ g k) → sum_below n f ≤ sum_below n g
sum-le zero f g h = omega arith
sum-le (suc n) f g h = omega (arith, h n (omega arith), sum-le n f g (λ k lt. h k (omega (arith, lt))))

pub sum-add : (n : ℕ) (f g : ℕ → ℕ) → sum_below n (λ k. f k + g k) ≡ sum_below n f + sum_below n g
sum-add zero f g = omega arith
sum-add (suc n) f g = omega (arith, sum-add n f g)

pub sum-times : (n m : ℕ) (f : ℕ → ℕ) → sum_below n (λ k. m * f k) ≡ m * sum_below n f
sum-times zero m f = omega arith
sum-times (suc n) m f = omega (arith, sum-times n m f)

pub sum-const : (n m : ℕ) → sum_below n (λ k. m) ≡ n * m
sum-const zero m = omega arith
sum-const (suc n) m = omega (arith, sum-const n m)

pub sum-zero : (n : ℕ) (f : ℕ → ℕ) → ((k : ℕ) → k < n → f k ≡ 0) → sum_below n f ≡ 0
sum-zero zero f h = refl
sum-zero (suc n) f h = omega (arith, h n (omega arith), sum-zero n f (λ k lt. h k (omega (arith, lt))))

pub sum-same : (n : ℕ) (f g : ℕ → ℕ) → ((k : ℕ) → k < n → f k ≡ g k) → sum_below n f ≡ sum_below n g
sum-same zero f g h = refl
sum-same (suc n) f g h = omega (arith, h n (omega arith), sum-same n f g (λ k lt. h k (omega (arith, lt))))

-- where one of the numbers grows, so does the sum
pub sum-one : (n i x : ℕ) (f g : ℕ → ℕ) → i < n → g i ≡ f i + x → ((k : ℕ) → k ≢ i → g k ≡ f k) → sum_below n g ≡ sum_below n f + x
sum-one zero i x f g lt at other = absurd (omega (arith, lt))
sum-one (suc n) i x f g lt at other = ⊎_elim
    (λ (e : n ≡ i).
    let here : g n ≡ f n + x = subst (λ k. g k ≡ f k + x) (sym e) at in
    omega (arith, here, sum-same n g f (λ k below. other k (λ (is : k ≡ i). omega (arith, below, is, e)))))
    (λ (e : n ≢ i). omega (arith, other n e, sum-one n i x f g (omega (arith, lt, e)) at other))
    (cases_eq n i)

-- ---- the callers' own

own_here : (f : Told → ℕ) (h : List Entry) (e : Entry) (who : ℕ) → who ≡ e.who → total f (own who (e ∷ h)) ≡ total f (own who h) + f (told e)
own_here f h e who is = ap (λ b. total f (cond b (told e ∷ own who h) (own who h))) (eq-eqb e.who who (sym is)) ∙ omega arith

own_there : (f : Told → ℕ) (h : List Entry) (e : Entry) (who : ℕ) → who ≢ e.who → total f (own who (e ∷ h)) ≡ total f (own who h)
own_there f h e who other = ap (λ b. total f (cond b (told e ∷ own who h) (own who h))) (ne_eqb e.who who (λ is. other (sym is)))

-- what all callers' calls come to is the sum of what each caller's own come to
pub total_own : (n : ℕ) (f : Told → ℕ) (h : List Entry) → All (λ (e : Entry). e.who < n) h → total f (all_told h) ≡ sum_below n (λ who. total f (own who h))
total_own n f [] known = sym (sum-zero n (λ who. 0) (λ k lt. refl))
total_own n f (e ∷ h) known =
    let rest = total_own n f h (All-tail (λ (x : Entry). x.who < n) e h known) in
    let more = sum-one n e.who (f (told e)) (λ who. total f (own who h)) (λ who. total f (own who (e ∷ h))) (All-head (λ (x : Entry). x.who < n) e h known)
    (own_here f h e e.who refl) (λ k other. own_there f h e k other) in
    omega (arith, rest, more)
