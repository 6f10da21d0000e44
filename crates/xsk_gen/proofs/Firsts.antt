-- The first values of a function.
use Rattle.std.proofs.Common.{◌≡◌, ◌∙◌, ◌+◌, ◌<◌, ◌≤◌, ◌%◌, ℕ, zero, suc, refl, ap, ap₂, subst, sym, arith, lt-ltb, le-ltb, [], ◌∷◌, ◌++◌, append_assoc}
use Rattle.xsk_gen.specs.Generator.{byte_at, draw, drawn, first, kind_byte, next_state}
use Rattle.xsk_gen.proofs.States.{after_next}

pub first_none : {A : Type 0} (f : ℕ → A) → first 0 f ≡ []
unfolding first
first_none f = refl

first_suc : {A : Type 0} (n : ℕ) (f : ℕ → A) → first (suc n) f ≡ first n f ++ f n ∷ []
unfolding first
first_suc n f = refl

pub first_more : {A : Type 0} (n : ℕ) (f : ℕ → A) → first (n + 1) f ≡ first n f ++ f n ∷ []
first_more n f =
    let next : suc n ≡ n + 1 = omega arith in
    subst (λ k. first k f ≡ first n f ++ f n ∷ []) next (first_suc n f)

first_same : {A : Type 0} (n : ℕ) (f g : ℕ → A) → ((i : ℕ) → i < n → f i ≡ g i) → first n f ≡ first n g
unfolding first
first_same zero f g same = refl
first_same (suc n) f g same =
    ap₂ (λ xs x. xs ++ x ∷ []) (first_same n f g (λ i h. same i (omega (arith, h)))) (same n (omega arith))

-- the twelve drawn bytes, and then the two of the kind
pub front : (k x : ℕ) → first 12 (λ i. draw (next_state x) i % 256) ++ (kind_byte k 12 ∷ kind_byte k 13 ∷ []) ≡ first 14 (byte_at k x)
front k x =
    let drawn_so : (i : ℕ) → i < 12 → draw (next_state x) i % 256 ≡ byte_at k x i =
    λ i h. rw (lt-ltb i 12 h) (ap (λ s. drawn s % 256) (after_next (suc i) x)) in
    ap (λ xs. xs ++ (kind_byte k 12 ∷ kind_byte k 13 ∷ [])) (first_same 12 (λ i. draw (next_state x) i % 256) (byte_at k x) drawn_so)
    ∙ sym (append_assoc (first 12 (byte_at k x)) (kind_byte k 12 ∷ []) (kind_byte k 13 ∷ []))
    ∙ ap (λ xs. xs ++ kind_byte k 13 ∷ []) (sym (first_suc 12 (byte_at k x)))
    ∙ sym (first_suc 13 (byte_at k x))

pub counted : (k x i : ℕ) → 14 ≤ i → byte_at k x i ≡ (i + k) % 256
counted k x i h =
    let above : 12 ≤ i = omega (arith, h) in
    rw (le-ltb i 12 above, le-ltb i 14 h) refl
