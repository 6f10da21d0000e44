-- Lists by number.
use Rattle.std.proofs.Common.{◌≡◌, ℕ, zero, suc, ◌+◌, ◌<◌, Bool, true, false, cond, [], ◌∷◌, ◌++◌, length, get_or, refl, ◌∙◌, arith, subst, inl, inr, ◌≢◌, ap₂, set, sym}
use Rattle.std.specs.Prelude.{All, count_by}
use Rattle.std.proofs.lemmas.Bool.{cases_Bool, cases_eq}
use Rattle.std.proofs.lemmas.List.{length-set, get_or-set_same, get_or-set_other}
use Rattle.std.proofs.lemmas.List.FromFn.{fill_by_all, map-range_with_len_more, length-map-range_with_len, get_or-map-range_with_len, sum_by-map-range_with_len_more}
use Rattle.xsk_socket.specs.Regular.{numbered}

pub numbered_more : {A : Type 0} (n : ℕ) (f : ℕ → A) → numbered (n + 1) f ≡ numbered n f ++ f n ∷ []
numbered_more n f = map-range_with_len_more f 0 n n (omega arith)

pub length-numbered : {A : Type 0} (n : ℕ) (f : ℕ → A) → length (numbered n f) ≡ n
length-numbered n f = length-map-range_with_len f 0 n

pub get_or-numbered : {A : Type 0} (n : ℕ) (f : ℕ → A) (i : ℕ) (d : A) → i < n → get_or (numbered n f) i d ≡ f i
get_or-numbered n f i d below = get_or-map-range_with_len f 0 n i i d below (omega arith)

pub all_numbered : {A : Type 0} (P : A → Type 0) (n : ℕ) (f : ℕ → A) → ((i : ℕ) → i < n → P (f i)) → All P (numbered n f)
all_numbered P n f each = λ i d within.
    let below : i < n = rw (length-numbered n f) at within in
    rw (get_or-numbered n f i d below) (each i below)

count_more : {A : Type 0} (p : A → Bool) (n : ℕ) (f : ℕ → A) → count_by p (numbered (suc n) f) ≡ count_by p (numbered n f) + cond (p (f n)) 1 0
count_more p n f =
    let next : n + 1 ≡ suc n = omega arith in
    subst (λ k. count_by p (numbered k f) ≡ count_by p (numbered n f) + cond (p (f n)) 1 0) next
    (sum_by-map-range_with_len_more (λ x. cond (p x) 1 0) f 0 n n (omega arith))

-- how often a test holds, where it holds nowhere, or at one place alone
count_none : {A : Type 0} (p : A → Bool) (n : ℕ) (f : ℕ → A) → ((i : ℕ) → i < n → p (f i) ≡ false) → count_by p (numbered n f) ≡ 0
count_none p zero f none = refl
count_none p (suc n) f none =
    count_more p n f ∙ rw (none n (omega arith), count_none p n f (λ i below. none i (omega (arith, below)))) refl

pub count_one : {A : Type 0} (p : A → Bool) (n : ℕ) (f : ℕ → A) (here : ℕ) → here < n → p (f here) ≡ true
    → ((i : ℕ) → i < n → p (f i) ≡ true → i ≡ here) → count_by p (numbered n f) ≡ 1
count_one p zero f here below holds alone = absurd (omega arith)
count_one p (suc n) f here below holds alone =
    elim (cases_Bool (p (f n))) [
      | inl last ↦
          let is : n ≡ here = alone n (omega arith) last in
          let before : (i : ℕ) → i < n → p (f i) ≡ false = λ i within. elim (cases_Bool (p (f i))) [
            | inl again ↦ let other : i ≡ here = alone i (omega (arith, within)) again in absurd (omega arith)
            | inr fails ↦ fails
          ] in
          count_more p n f ∙ rw (last, count_none p n f before) refl
      | inr fails ↦
          let other : here ≢ n = λ is. let last : p (f n) ≡ true = subst (λ k. p (f k) ≡ true) is holds in absurd (cc) in
          count_more p n f ∙ rw (fails, count_one p n f here (omega (arith, other)) holds (λ i within is. alone i (omega (arith, within)) is)) refl
    ]

pub numbered_same : {A : Type 0} (n : ℕ) (f g : ℕ → A) → ((i : ℕ) → i < n → f i ≡ g i) → numbered n f ≡ numbered n g
numbered_same zero f g same = refl
numbered_same (suc n) f g same =
    let next : n + 1 ≡ suc n = omega arith in
    subst (λ k. numbered k f ≡ numbered k g) next
    (numbered_more n f
    ∙ ap₂ (λ xs x. xs ++ x ∷ []) (numbered_same n f g (λ i below. same i (omega (arith, below)))) (same n (omega arith))
    ∙ sym (numbered_more n g))

-- a list by number, of which one entry was written
pub set_numbered : {A : Type 0} (n : ℕ) (f g : ℕ → A) (s : ℕ) (v : A) → s < n → g s ≡ v → ((i : ℕ) → i ≢ s → f i ≡ g i) → set (numbered n f) s v ≡ numbered n g
set_numbered n f g s v below here other =
    fill_by_all g (set (numbered n f) s v) n v (length-set (numbered n f) s v ∙ length-numbered n f) (λ i within.
    let inside : s < length (numbered n f) = rw (length-numbered n f) below in
    elim (cases_eq i s) [
      | inl is ↦ subst (λ k. get_or (set (numbered n f) s v) k v ≡ g k) (sym is) (get_or-set_same (numbered n f) s v v inside ∙ sym here)
      | inr apart ↦ get_or-set_other (numbered n f) s i v v apart ∙ get_or-numbered n f i v within ∙ other i apart
    ])
