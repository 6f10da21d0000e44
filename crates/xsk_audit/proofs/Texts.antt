-- How the readers follow a text.
use Rattle.std.proofs.Common.{◌≡◌, ℕ, suc, ◌+◌, ◌-◌, ◌*◌, ◌^◌, ◌<◌, ◌≤◌, Option, Some, None, List, [], ◌∷◌, ◌++◌, length, take, drop, slice_index, refl, sym, ap, ◌∙◌, inl, inr, true, false, append_assoc, arith}
use Rattle.std.specs.Prelude.{Bool, ◌==◌, ◌&&◌, nat_eq}
use Rattle.std.specs.Borrow.{Bor}
use Rattle.std.specs.Option.{MatchOption}
use Rattle.std.specs.Cmp.Lexicographic.{pointwise}
use Rattle.std.specs.Char.{is_ascii_digit}
use Rattle.std.proofs.lemmas.Bool.{cases_Bool, eq-eqb, eqb-true, le-leb, lt-leb, ne_eqb}
use Rattle.std.specs.Fmt.{decimal}
use Rattle.xsk_audit.proofs.Numbers.{number-text, some-value}
use Rattle.std.proofs.lemmas.List.{drop_more}
use Rattle.xsk_model.specs.MarkKinds.{kind_at, word_of}
use Rattle.xsk_audit.specs.Reading.{text_view, choose, word_at, mark_of_kind, mark_from, number_at, digits_end, digits_from, is_leading_zero}

-- a digit, another byte, a zero in front and a number that is too large, at place i
pub digits-stop : (value len : ℕ) (xs : List ℕ) (i : ℕ) → i < length xs → is_ascii_digit (slice_index xs i) ≡ false
    → digits_from value len (drop i xs) ≡ digits_end value len (drop i xs)
unfolding digits_from
digits-stop value len xs i within other = rw (drop_more xs i 0 within, other) refl

pub digits-zero : (value len : ℕ) (xs : List ℕ) (i : ℕ) → i < length xs → is_ascii_digit (slice_index xs i) ≡ true → is_leading_zero value len ≡ true
    → digits_from value len (drop i xs) ≡ None
unfolding digits_from
digits-zero value len xs i within digit leading = rw (drop_more xs i 0 within, digit, leading) refl

pub digits-over : (value len : ℕ) (xs : List ℕ) (i : ℕ) → i < length xs → is_ascii_digit (slice_index xs i) ≡ true → is_leading_zero value len ≡ false
    → 2 ^ 64 ≤ value * 10 + (slice_index xs i - 48) → digits_from value len (drop i xs) ≡ None
unfolding digits_from
digits-over value len xs i within digit plain big = rw (drop_more xs i 0 within, digit, plain, le-leb _ _ big) refl

pub digits-next : (value len : ℕ) (xs : List ℕ) (i : ℕ) → i < length xs → is_ascii_digit (slice_index xs i) ≡ true → is_leading_zero value len ≡ false
    → value * 10 + (slice_index xs i - 48) < 2 ^ 64
    → digits_from value len (drop i xs) ≡ digits_from (value * 10 + (slice_index xs i - 48)) (len + 1) (drop (i + 1) xs)
unfolding digits_from
digits-next value len xs i within digit plain small = rw (drop_more xs i 0 within, digit, plain, lt-leb _ _ small) refl

-- ---- words

-- both bytes of a test, in turn
both : (b c : Bool) → b && c ≡ true → (b ≡ true) × (c ≡ true)
both true c h = (refl, h)
both false c h = cc h

pub word-found : (word xs : List ℕ) → pointwise nat_eq (take (length word) xs) word ≡ true → word_at word xs ≡ Some (drop (length word) xs)
unfolding word_at
word-found [] xs h = refl
word-found (w ∷ word) [] h = cc h
word-found (w ∷ word) (x ∷ xs) h =
    let p = both (x == w) (pointwise nat_eq (take (length word) xs) word) h in
    rw p.0 (word-found word xs p.1)

pub word-missed : (word xs : List ℕ) → pointwise nat_eq (take (length word) xs) word ≡ false → word_at word xs ≡ None
unfolding word_at
word-missed [] xs h = cc h
word-missed (w ∷ word) [] h = refl
word-missed (w ∷ word) (x ∷ xs) h = elim (cases_Bool (x == w)) [
  | inl same ↦ rw same (word-missed word xs (rw same at h))
  | inr other ↦ rw other refl
]

pub word-view : (word xs : List ℕ) (r : Option (Bor (List ℕ)))
    → MatchOption r (pointwise nat_eq (take (length word) xs) word ≡ false) (λ x. (pointwise nat_eq (take (length word) xs) word ≡ true) × (x.now ≡ drop (length word) xs) × (length x.now + length word ≡ length xs))
    → text_view r ≡ word_at word xs
word-view word xs None h = sym (word-missed word xs h)
word-view word xs (Some rest) h = ap Some h.1 ∙ sym (word-found word xs h.0)

-- ---- a word by its first letter

pub no-letters : (word xs : List ℕ) → length word ≡ 0 → Some xs ≡ word_at word xs
unfolding word_at
no-letters [] xs none = refl
no-letters (w ∷ word) xs none = absurd (omega (arith, none))

pub no-text : (w : ℕ) (word all xs : List ℕ) → all ≡ w ∷ word → length xs ≡ 0 → None ≡ word_at all xs
unfolding word_at
no-text w word all [] is none = rw is refl
no-text w word all (x ∷ xs) is none = absurd (omega (arith, none))

pub same-letter : (w x : ℕ) (word xs all text : List ℕ) → all ≡ w ∷ word → text ≡ x ∷ xs → x ≡ w → word_at all text ≡ word_at word xs
unfolding word_at
same-letter w x word xs all text is begins same = rw (is, begins, eq-eqb x w same) refl

pub other-letter : (w x : ℕ) (word xs all text : List ℕ) → all ≡ w ∷ word → text ≡ x ∷ xs → (x ≡ w → ⊥) → word_at all text ≡ None
unfolding word_at
other-letter w x word xs all text is begins other = rw (is, begins, ne_eqb x w other) refl

-- a word that was read stands at the front
pub word-text : (word xs rest : List ℕ) → word_at word xs ≡ Some rest → xs ≡ word ++ rest
unfolding word_at
word-text [] xs rest h = some-value xs rest h
word-text (w ∷ word) [] rest h = cc h
word-text (w ∷ word) (x ∷ xs) rest h = elim (cases_Bool (x == w)) [
  | inl same ↦
      let first : x ≡ w = eqb-true x w same in
      rw first (ap (λ (l : List ℕ). w ∷ l) (word-text word xs rest (rw same at h)))
  | inr other ↦ cc (rw other at h)
]

-- a word is read where it stands at the front
pub word-again : (word rest : List ℕ) → word_at word (word ++ rest) ≡ Some rest
unfolding word_at
word-again [] rest = refl
word-again (w ∷ word) rest = rw (eq-eqb w w refl) (word-again word rest)

-- two texts that were compared are one
pub same-bytes : (xs ys : List ℕ) → pointwise nat_eq xs ys ≡ true → xs ≡ ys
same-bytes [] [] h = refl
same-bytes [] (y ∷ ys) h = cc h
same-bytes (x ∷ xs) [] h = cc h
same-bytes (x ∷ xs) (y ∷ ys) h =
    let p = both (x == y) (pointwise nat_eq xs ys) h in
    let first : x ≡ y = eqb-true x y p.0 in
    rw first (ap (λ (l : List ℕ). y ∷ l) (same-bytes xs ys p.1))

-- a line of a round, a space and a text
pub timed-text : (line : List ℕ) (round : ℕ) (rest later text : List ℕ) → Some (round, rest) ≡ number_at line → Some later ≡ word_at (32 ∷ []) rest
    → pointwise nat_eq later text ≡ true → (round < 2 ^ 64) × (line ≡ decimal round ++ 32 ∷ [] ++ text)
timed-text line round rest later text number word same =
    let n = number-text line round rest (sym number) in (
      n.1,
      n.0 ∙ ap (λ l. decimal round ++ l) (word-text (32 ∷ []) rest later (sym word) ∙ ap (λ l. 32 ∷ l) (same-bytes later text same)) ∙ sym (append_assoc (decimal round) (32 ∷ []) text),
    )

-- a word that is looked for among those of the kinds of marks
next_row : (row : ℕ) → row < 10 → 10 - row ≡ suc (10 - (row + 1))
next_row row below = omega (arith, below)

pub other-kind : (row : ℕ) (xs : List ℕ) → row < 10 → word_at (word_of (kind_at row)) xs ≡ None → mark_from (10 - row) row xs ≡ mark_from (10 - (row + 1)) (row + 1) xs
unfolding mark_from
other-kind row xs below none =
    let later = mark_from (10 - (row + 1)) (row + 1) xs in
    ap (λ n. mark_from n row xs) (next_row row below) ∙ ap (λ found. choose found (mark_of_kind (kind_at row)) later) none

pub this-kind : (row : ℕ) (xs rest : List ℕ) → row < 10 → word_at (word_of (kind_at row)) xs ≡ Some rest → mark_from (10 - row) row xs ≡ mark_of_kind (kind_at row) rest
unfolding mark_from
this-kind row xs rest below some =
    let later = mark_from (10 - (row + 1)) (row + 1) xs in
    ap (λ n. mark_from n row xs) (next_row row below) ∙ ap (λ found. choose found (mark_of_kind (kind_at row)) later) some

pub no-kind : (row : ℕ) (xs : List ℕ) → 10 ≤ row → mark_from (10 - row) row xs ≡ None
unfolding mark_from
no-kind row xs past =
    let none : 10 - row ≡ 0 = omega (arith, past) in
    ap (λ n. mark_from n row xs) none

pub no-view : (text : Option (Bor (List ℕ))) → ((rest : Bor (List ℕ)) → text ≡ Some rest → ⊥) → text_view text ≡ None
no-view None other = refl
no-view (Some rest) other = absurd (other rest refl)
