-- Lines, cut off one after another.
use Rattle.std.proofs.Common.{◌≡◌, ◌≢◌, ℕ, zero, suc, ◌+◌, ◌-◌, ◌<◌, ◌≤◌, List, [], ◌∷◌, length, take, drop, slice_index, refl, sym, ap, subst, ◌∙◌, arith, inl, inr}
use Rattle.std.specs.Prelude.{◌==◌}
use Rattle.std.proofs.lemmas.Bool.{cases_Bool, eqb-true}
use Rattle.std.proofs.lemmas.List.{take_all, drop_all, length-drop}
use Rattle.xsk_lines.specs.Lines.{in_front, lines_of}

pub lines-cut : (xs : List ℕ) (i : ℕ) → i < length xs → ((k : ℕ) → k < i → slice_index xs k ≢ 10) → slice_index xs i ≡ 10
    → lines_of xs ≡ take (suc i) xs ∷ lines_of (drop (suc i) xs)
unfolding lines_of
lines-cut [] i within none here = absurd (omega (arith, within))
lines-cut (b ∷ bs) zero within none here = rw here refl
lines-cut (b ∷ bs) (suc i) within none here = elim (cases_Bool (b == 10)) [
  | inl feed ↦ absurd (none 0 (omega arith) (eqb-true b 10 feed))
  | inr other ↦ rw other (ap (in_front b) (lines-cut bs i (omega (arith, within)) (λ k below. none (suc k) (omega (arith, below))) here))
]

pub lines-whole : (xs : List ℕ) → xs ≢ [] → ((k : ℕ) → k < length xs → slice_index xs k ≢ 10) → lines_of xs ≡ xs ∷ []
unfolding lines_of
lines-whole [] some none = absurd (some refl)
lines-whole (b ∷ []) some none = elim (cases_Bool (b == 10)) [
  | inl feed ↦ absurd (none 0 (omega arith) (eqb-true b 10 feed))
  | inr other ↦ rw other refl
]
lines-whole (b ∷ c ∷ bs) some none = elim (cases_Bool (b == 10)) [
  | inl feed ↦ absurd (none 0 (omega arith) (eqb-true b 10 feed))
  | inr other ↦ rw other (ap (in_front b) (lines-whole (c ∷ bs) (λ e. cc e) (λ k below. none (suc k) (omega (arith, below)))))
]

-- ---- as slices have it

-- what stands behind some bytes of a slice
pub behind : (n : ℕ) (xs : List ℕ) → take (length xs - n) (drop n xs) ≡ drop n xs
behind n xs = take_all (length xs - n) (drop n xs) (omega (arith, length-drop n xs))

pub line-here : (xs : List ℕ) (i : ℕ) → i < length xs → ((k : ℕ) → k < i → slice_index xs k ≢ 10) → slice_index xs i ≡ 10
    → lines_of xs ≡ take (i + 1) xs ∷ lines_of (take (length xs - (i + 1)) (drop (i + 1) xs))
line-here xs i within none here =
    let e : suc i ≡ i + 1 = omega arith in
    subst (λ n. lines_of xs ≡ take n xs ∷ lines_of (drop n xs)) e (lines-cut xs i within none here)
    ∙ ap (λ (t : List ℕ). take (i + 1) xs ∷ lines_of t) (sym (behind (i + 1) xs))

pub line-whole : (xs : List ℕ) (i : ℕ) → xs ≢ [] → length xs ≤ i → ((k : ℕ) → k < i → slice_index xs k ≢ 10)
    → lines_of xs ≡ xs ∷ lines_of (take (length xs - length xs) (drop (length xs) xs))
unfolding lines_of
line-whole xs i some end none =
    let d : drop (length xs) xs ≡ [] = drop_all (length xs) xs (omega arith) in
    let t : take (length xs - length xs) (drop (length xs) xs) ≡ [] = ap (take (length xs - length xs)) d ∙ take_all (length xs - length xs) [] (omega arith) in
    rw t (lines-whole xs some (λ k below. none k (omega (arith, below, end))))
