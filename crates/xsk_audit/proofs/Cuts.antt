-- Lines, cut off one after another.
use Rattle.std.proofs.Common.{◌≡◌, ◌≢◌, ℕ, zero, suc, ◌+◌, ◌-◌, ◌<◌, ◌≤◌, List, [], ◌∷◌, length, take, drop, slice_index, refl, sym, ap, subst, ◌∙◌, arith, true, false, inl, inr}
use Rattle.std.specs.Prelude.{◌==◌, Bool}
use Rattle.std.proofs.lemmas.Bool.{cases_Bool, eqb-true}
use Rattle.std.proofs.lemmas.List.{take_all, drop_all, length-drop, nil_from_length}
use Rattle.std.specs.Char.{is_ascii_digit}
use Rattle.xsk_audit.specs.Lines.{in_front, lines_of, begins_digit, journal_of, report_of}

pub lines-cut : (xs : List ℕ) (i : ℕ) → i < length xs → ((k : ℕ) → k < i → slice_index xs k ≢ 10) → slice_index xs i ≡ 10
    → lines_of xs ≡ take (suc i) xs ∷ lines_of (drop (suc i) xs)
unfolding lines_of
lines-cut [] i within none here = absurd (omega (arith, within))
lines-cut (b ∷ bs) zero within none here = rw here refl
lines-cut (b ∷ bs) (suc i) within none here = elim (cases_Bool (b == 10)) [
  | inl feed ↦ absurd (none 0 (omega arith) (eqb-true b 10 feed))
  | inr other ↦ rw other (ap (in_front b) (lines-cut bs i (omega (arith, within)) (λ k below. none (suc k) (omega (arith, below))) here))
]

pub lines-whole : (xs : List ℕ) → xs ≢ [] → ((k : ℕ) → k < length xs → slice_index xs k ≢ 10) → lines_of xs ≡ xs ∷ []
unfolding lines_of
lines-whole [] some none = absurd (some refl)
lines-whole (b ∷ []) some none = elim (cases_Bool (b == 10)) [
  | inl feed ↦ absurd (none 0 (omega arith) (eqb-true b 10 feed))
  | inr other ↦ rw other refl
]
lines-whole (b ∷ c ∷ bs) some none = elim (cases_Bool (b == 10)) [
  | inl feed ↦ absurd (none 0 (omega arith) (eqb-true b 10 feed))
  | inr other ↦ rw other (ap (in_front b) (lines-whole (c ∷ bs) (λ e. cc e) (λ k below. none (suc k) (omega (arith, below)))))
]

-- ---- as slices have it

-- what stands behind some bytes of a slice
pub behind : (n : ℕ) (xs : List ℕ) → take (length xs - n) (drop n xs) ≡ drop n xs
behind n xs = take_all (length xs - n) (drop n xs) (omega (arith, length-drop n xs))

pub line-here : (xs : List ℕ) (i : ℕ) → i < length xs → ((k : ℕ) → k < i → slice_index xs k ≢ 10) → slice_index xs i ≡ 10
    → lines_of xs ≡ take (i + 1) xs ∷ lines_of (take (length xs - (i + 1)) (drop (i + 1) xs))
line-here xs i within none here =
    let e : suc i ≡ i + 1 = omega arith in
    subst (λ n. lines_of xs ≡ take n xs ∷ lines_of (drop n xs)) e (lines-cut xs i within none here)
    ∙ ap (λ (t : List ℕ). take (i + 1) xs ∷ lines_of t) (sym (behind (i + 1) xs))

pub line-whole : (xs : List ℕ) (i : ℕ) → xs ≢ [] → length xs ≤ i → ((k : ℕ) → k < i → slice_index xs k ≢ 10)
    → lines_of xs ≡ xs ∷ lines_of (take (length xs - length xs) (drop (length xs) xs))
unfolding lines_of
line-whole xs i some end none =
    let d : drop (length xs) xs ≡ [] = drop_all (length xs) xs (omega arith) in
    let t : take (length xs - length xs) (drop (length xs) xs) ≡ [] = ap (take (length xs - length xs)) d ∙ take_all (length xs - length xs) [] (omega arith) in
    rw t (lines-whole xs some (λ k below. none k (omega (arith, below, end))))

-- ---- lines that are passed over

first-in-front : (b : ℕ) (ls : List (List ℕ)) (line : List ℕ) (lines : List (List ℕ)) → in_front b ls ≡ line ∷ lines → begins_digit line ≡ is_ascii_digit b
first-in-front b [] line lines is = let l : line ≡ b ∷ [] = cc is in ap begins_digit l
first-in-front b (l ∷ ls) line lines is = let e : line ≡ b ∷ l = cc is in ap begins_digit e

first-begins : (xs line : List ℕ) (lines : List (List ℕ)) → lines_of xs ≡ line ∷ lines → begins_digit line ≡ begins_digit xs
unfolding lines_of
first-begins [] line lines is = cc is
first-begins (b ∷ bs) line lines is = elim (cases_Bool (b == 10)) [
  | inl feed ↦ let h = rw feed at is in let l : line ≡ b ∷ [] = cc h in ap begins_digit l
  | inr other ↦ first-in-front b (lines_of bs) line lines (rw other at is)
]

journal-stops : (ls : List (List ℕ)) (line : List ℕ) (lines : List (List ℕ)) → ls ≡ line ∷ lines → begins_digit line ≡ true → (length (report_of ls) ≡ 0) × (journal_of ls ≡ ls)
unfolding journal_of report_of
journal-stops ls line lines is digit = rw (is, digit) (refl, refl)

begins-with : (xs : List ℕ) (ls : List (List ℕ)) → lines_of xs ≡ ls → xs ≢ [] → begins_digit xs ≡ true → (length (report_of ls) ≡ 0) × (journal_of ls ≡ ls)
unfolding journal_of report_of
begins-with xs [] is some digit = (refl, refl)
begins-with xs (l ∷ ls) is some digit = journal-stops (l ∷ ls) l ls refl (first-begins xs l ls is ∙ digit)

-- the journal begins here
pub here-begins : (xs : List ℕ) → begins_digit xs ≡ true → (length (report_of (lines_of xs)) ≡ 0) × (journal_of (lines_of xs) ≡ lines_of xs)
here-begins [] digit = cc digit
here-begins (b ∷ bs) digit = begins-with (b ∷ bs) (lines_of (b ∷ bs)) refl (λ e. cc e) digit

pub none-left : (xs : List ℕ) → xs ≡ [] → (length (report_of (lines_of xs)) ≡ 0) × (journal_of (lines_of xs) ≡ lines_of xs)
unfolding lines_of journal_of report_of
none-left xs none = rw none (refl, refl)

-- a line that is passed over
pub line-passed : (xs line : List ℕ) (rest : List (List ℕ)) → begins_digit xs ≡ false → lines_of xs ≡ line ∷ rest
    → (length (report_of (lines_of xs)) ≡ suc (length (report_of rest))) × (journal_of (lines_of xs) ≡ journal_of rest)
unfolding journal_of report_of
line-passed xs line rest other is =
    let l : begins_digit line ≡ false = first-begins xs line rest is ∙ other in
    rw (is, l) (refl, refl)

-- a text without a byte has no line
pub no-lines : (xs : List ℕ) (b : Bool) → b ≡ (length xs == 0) → b ≡ true → lines_of xs ≡ []
unfolding lines_of
no-lines xs b is h = ap lines_of (nil_from_length xs (eqb-true (length xs) 0 (sym is ∙ h)))
