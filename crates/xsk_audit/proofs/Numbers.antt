-- What is read as a number is the text of a number, and the text of a number is read as it.
use Rattle.std.proofs.Common.{◌≡◌, ℕ, ◌+◌, ◌-◌, ◌*◌, ◌/◌, ◌%◌, ◌^◌, ◌<◌, ◌≤◌, ◌++◌, List, [], ◌∷◌, length, Option, Some, true, false, refl, sym, ap, ◌∙◌, arith, inl, inr, append_assoc, length-append}
use Rattle.std.proofs.lemmas.Bool.{cases_Bool, cases_lt, le-leb, lt-leb, lt-ltb}
use Rattle.std.proofs.lemmas.Fmt.{decimal_by_steps, decimal_digit, decimal_nonempty, decimal_step}
use Rattle.std.specs.Fmt.{decimal}
use Rattle.std.specs.Char.{is_ascii_digit}
use Rattle.std.specs.Prelude.{unwrap_or}
use Rattle.xsk_audit.specs.Lines.{begins_digit}
use Rattle.xsk_audit.specs.Reading.{digits_end, digits_from, is_leading_zero, number_at}

-- the value inside two equal answers
pub some-value : {A : Type 0} (x y : A) → ◌≡◌ {A = Option A} (Some x) (Some y) → x ≡ y
some-value {A} x y e = ap (λ (r : Option A). unwrap_or r x) e

-- digits that ended give what was read, and there was at least one
digits_end-some : (value len : ℕ) (xs : List ℕ) (v : ℕ) (rest : List ℕ) → digits_end value len xs ≡ Some (v, rest)
    → (0 < len) × (value ≡ v) × (xs ≡ rest)
digits_end-some value len xs v rest h = elim (cases_lt 0 len) [
  | inl some ↦
      let p = some-value _ _ (rw (lt-ltb 0 len some) at h) in
      (some, ap (λ (q : ℕ × List ℕ). q.0) p, ap (λ (q : ℕ × List ℕ). q.1) p)
  | inr none ↦
      let e : len ≡ 0 = omega arith in
      cc (rw e at h)
]

-- one digit more on the front of a number
next-front : (value len b : ℕ) (front : List ℕ) → is_ascii_digit b ≡ true → is_leading_zero value len ≡ false
    → value * 10 + (b - 48) < 2 ^ 64
    → (len ≡ 0 → (front ≡ []) × (value ≡ 0)) → (0 < len → front ≡ decimal value)
    → front ++ b ∷ [] ≡ decimal (value * 10 + (b - 48))
next-front value len b front d z small start run =
    let range : (48 ≤ b) × (b ≤ 57) = grind arith in
    elim (cases_lt 0 len) [
      | inl some ↦
          let other : 0 < value = grind arith in
          let step = decimal_step (value * 10 + (b - 48)) (omega arith) small in
          let top : (value * 10 + (b - 48)) / 10 ≡ value = omega arith in
          let low : 48 + (value * 10 + (b - 48)) % 10 ≡ b = omega arith in
          rw (run some) (sym (rw (top, low) at step))
      | inr none ↦
          let s = start (omega arith) in
          let e : value * 10 + (b - 48) ≡ b - 48 = rw s.1 (omega arith) in
          let low : 48 + (b - 48) ≡ b = omega arith in
          rw (s.0, e, decimal_digit (b - 48) (omega arith), low) refl
    ]

-- digits that were read are the text of what they give, with what is left behind it
digits-text : (value len : ℕ) (xs front : List ℕ) (v : ℕ) (rest : List ℕ)
    → (len ≡ 0 → (front ≡ []) × (value ≡ 0)) → (0 < len → front ≡ decimal value) → value < 2 ^ 64
    → digits_from value len xs ≡ Some (v, rest)
    → (front ++ xs ≡ decimal v ++ rest) × (v < 2 ^ 64)
unfolding digits_from
digits-text value len [] front v rest start run fits h =
    let d = digits_end-some value len [] v rest h in
    (rw (run d.0, d.1, ← d.2) refl, rw (← d.1) fits)
digits-text value len (b ∷ r) front v rest start run fits h =
    elim (cases_Bool (is_ascii_digit b)) [
      | inl digit ↦ elim (cases_Bool (is_leading_zero value len)) [
        | inl leading ↦ cc (rw (digit, leading) at h)
        | inr plain ↦ elim (cases_lt (value * 10 + (b - 48)) (2 ^ 64)) [
          | inl small ↦
              let more = rw (digit, plain, lt-leb _ _ small) at h in
              let next = next-front value len b front digit plain small start run in
              let ih = digits-text (value * 10 + (b - 48)) (len + 1) r (front ++ b ∷ []) v rest (λ e. absurd (omega arith)) (λ _. next) small more in
              (sym (append_assoc front (b ∷ []) r) ∙ ih.0, ih.1)
          | inr big ↦ cc (rw (digit, plain, le-leb _ _ big) at h)
        ]
      ]
      | inr other ↦
          let d = digits_end-some value len (b ∷ r) v rest (rw other at h) in
          (rw (run d.0, d.1, d.2) refl, rw (← d.1) fits)
    ]

-- a number that was read is the text of its value, with the rest behind it
pub number-text : (xs : List ℕ) (v : ℕ) (rest : List ℕ) → number_at xs ≡ Some (v, rest) → (xs ≡ decimal v ++ rest) × (v < 2 ^ 64)
number-text xs v rest h = digits-text 0 0 xs [] v rest (λ _. (refl, refl)) (λ e. absurd (omega arith)) (omega arith) h

-- one digit more
digits-cons : (value len b : ℕ) (r : List ℕ) → is_ascii_digit b ≡ true → is_leading_zero value len ≡ false
    → value * 10 + (b - 48) < 2 ^ 64 → digits_from value len (b ∷ r) ≡ digits_from (value * 10 + (b - 48)) (len + 1) r
unfolding digits_from
digits-cons value len b r d z small = rw (d, z, lt-leb _ _ small) refl

abbrev Runs : ℕ → List ℕ → Type 0
Runs n ds = n < 2 ^ 64 → (rest : List ℕ) → digits_from 0 0 (ds ++ rest) ≡ digits_from n (length ds) rest

-- the digits of a number, read from the front
digits-run : (n : ℕ) → n < 2 ^ 64 → (rest : List ℕ) → digits_from 0 0 (decimal n ++ rest) ≡ digits_from n (length (decimal n)) rest
digits-run n fits rest = decimal_by_steps Runs
    (λ k low small r.
    let d : is_ascii_digit (48 + k) ≡ true = grind arith in
    let e : 0 * 10 + ((48 + k) - 48) ≡ k = omega arith in
    digits-cons 0 0 (48 + k) r d refl (omega arith) ∙ rw e refl)
    (λ k ds big ih small r.
    let top : k / 10 < 2 ^ 64 = omega arith in
    let g = 48 + k % 10 in
    let d : is_ascii_digit g ≡ true = grind arith in
    let z : is_leading_zero (k / 10) (length ds) ≡ false = grind arith in
    let e : (k / 10) * 10 + (g - 48) ≡ k = omega arith in
    let l : length ds + 1 ≡ length (ds ++ g ∷ []) = sym (length-append ds (g ∷ [])) in
    rw (append_assoc ds (g ∷ []) r) (ih top (g ∷ r) ∙ digits-cons (k / 10) (length ds) g r d z (omega arith) ∙ rw (e, l) refl))
    n fits fits rest

-- the text of a number is read as it, where no digit follows
pub number-again : (v : ℕ) (rest : List ℕ) → v < 2 ^ 64 → begins_digit rest ≡ false → number_at (decimal v ++ rest) ≡ Some (v, rest)
unfolding digits_from
number-again v [] fits h =
    let some = decimal_nonempty v fits in
    rw (digits-run v fits [], lt-ltb 0 (length (decimal v)) some) refl
number-again v (b ∷ r) fits h =
    let some = decimal_nonempty v fits in
    rw (digits-run v fits (b ∷ r), h, lt-ltb 0 (length (decimal v)) some) refl
