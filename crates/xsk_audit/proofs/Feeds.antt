-- Texts of whole lines: a text is cut into lines as it was put together of them.
use Rattle.std.proofs.Common.{◌≡◌, ℕ, zero, suc, ◌/◌, ◌%◌, List, [], ◌∷◌, ◌++◌, refl, sym, ap, ◌∙◌, inl, inr, arith, append_assoc}
use Rattle.std.specs.Prelude.{◌==◌, Bool, true, false, if◌then◌else◌, flat_map}
use Rattle.std.specs.Fmt.{decimal, digits, digits_onto, digit_glyph}
use Rattle.std.proofs.lemmas.Bool.{cases_Bool}
use Rattle.std.proofs.lemmas.Bool.Decides.{nat_tests}
use Rattle.xsk_audit.specs.Lines.{in_front, lines_of, begins_digit, journal_of}

-- ---- texts without a line feed

abbrev pub has_no_feed : List ℕ → Bool
has_no_feed [] = true
has_no_feed (b ∷ bs) = if b == 10 then false else has_no_feed bs

pub no-feed-both : (xs ys : List ℕ) → has_no_feed xs ≡ true → has_no_feed ys ≡ true → has_no_feed (xs ++ ys) ≡ true
no-feed-both [] ys first second = second
no-feed-both (x ∷ xs) ys first second = elim (cases_Bool (x == 10)) [
  | inl feed ↦ cc (rw feed at first)
  | inr other ↦ rw other (no-feed-both xs ys (rw other at first) second)
]

glyph-no-feed : (n : ℕ) (acc : List ℕ) → has_no_feed acc ≡ true → has_no_feed (digit_glyph false n ∷ acc) ≡ true
glyph-no-feed n acc h = let other : (digit_glyph false n == 10) ≡ false = grind (arith, nat_tests) in rw other h

digits-no-feed : (k n : ℕ) (acc : List ℕ) → has_no_feed acc ≡ true → has_no_feed (digits_onto k 10 false n acc) ≡ true
digits-no-feed zero n acc h = h
digits-no-feed (suc k) n acc h = elim (cases_Bool (n / 10 == 0)) [
  | inl last ↦ rw last (glyph-no-feed (n % 10) acc h)
  | inr more ↦ rw more (digits-no-feed k (n / 10) (digit_glyph false (n % 10) ∷ acc) (glyph-no-feed (n % 10) acc h))
]

pub decimal-no-feed : (n : ℕ) → has_no_feed (decimal n) ≡ true
unfolding digits
decimal-no-feed n = digits-no-feed 64 n [] refl

-- ---- lines

pub line-first : (body rest : List ℕ) → has_no_feed body ≡ true → lines_of (body ++ 10 ∷ rest) ≡ (body ++ 10 ∷ []) ∷ lines_of rest
unfolding lines_of
line-first [] rest h = refl
line-first (b ∷ bs) rest h = elim (cases_Bool (b == 10)) [
  | inl feed ↦ cc (rw feed at h)
  | inr other ↦ rw other (ap (in_front b) (line-first bs rest (rw other at h)))
]

-- a line of a text, with its line feed
abbrev pub IsLine : List ℕ → Type 0
IsLine line = (body : List ℕ) × (line ≡ body ++ 10 ∷ []) × (has_no_feed body ≡ true)

pub line-next : (line rest : List ℕ) → IsLine line → lines_of (line ++ rest) ≡ line ∷ lines_of rest
line-next line rest is =
    ap (λ l. lines_of (l ++ rest)) is.1 ∙ ap lines_of (append_assoc is.0 (10 ∷ []) rest) ∙ line-first is.0 rest is.2 ∙ ap (λ l. l ∷ lines_of rest) (sym is.1)

-- ---- lines that are passed over

abbrev pub IsPassed : List ℕ → Type 0
IsPassed text = (rest : List ℕ) → journal_of (lines_of (text ++ rest)) ≡ journal_of (lines_of rest)

pub passed-none : IsPassed []
passed-none rest = refl

pub passed-both : (first second : List ℕ) → IsPassed first → IsPassed second → IsPassed (first ++ second)
passed-both first second a b rest = ap (λ t. journal_of (lines_of t)) (append_assoc first second rest) ∙ a (second ++ rest) ∙ b rest

begins-line : (body : List ℕ) → begins_digit body ≡ false → begins_digit (body ++ 10 ∷ []) ≡ false
begins-line [] h = refl
begins-line (b ∷ bs) h = h

pub passed-line : (body : List ℕ) → begins_digit body ≡ false → has_no_feed body ≡ true → IsPassed (body ++ 10 ∷ [])
unfolding journal_of
passed-line body other h rest =
    ap journal_of (line-next (body ++ 10 ∷ []) rest (body, refl, h)) ∙ (rw (begins-line body other) refl)

pub passed-flat : {A : Type 0} (f : A → List ℕ) (xs : List A) → ((x : A) → IsPassed (f x)) → IsPassed (flat_map f xs)
passed-flat f [] each = passed-none
passed-flat f (x ∷ xs) each = passed-both (f x) (flat_map f xs) (each x) (passed-flat f xs each)
