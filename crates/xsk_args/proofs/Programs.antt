-- What is read of a program's word.
use Rattle.std.proofs.Common.{◌≡◌, ◌≢◌, ◌∙◌, ◌<◌, ◌++◌, ◌^◌, ℕ, Bool, cond, true, false, refl, sym, ap, arith, ltb-true, List, [], ◌∷◌, drop, length, take, Option, Some, None, Result, Ok, Err, Bor, subst}
use Rattle.std.specs.Char.{digit_value, is_digit}
use Rattle.std.specs.List.{list_all}
use Rattle.std.specs.Result.{result_ok}
use Rattle.std.specs.Option.{MatchOption, option_map}
use Rattle.std.specs.Str.{bytes_eq}
use Rattle.std.specs.Str.Pattern.{FindsTextPrefix, StripsPrefix}
use Rattle.std.specs.Str.Parse.{AllDigits, IsNumeral, ParsesUnsigned, digits_value, without_leading_plus}
use Rattle.std.proofs.lemmas.Bool.{ne_eqb}
use Rattle.std.proofs.lemmas.Slice.Eq.{bytes_eq-Decides}
use Rattle.std.proofs.Math.Seq.{take-append_seam}
use Rattle.std.proofs.lemmas.List.{take-append-drop}
use Rattle.std.proofs.lemmas.Int.Digits.{digits_value-lt}
use Rattle.clap.proofs.WalkLemmas.{both}
use Rattle.xsk_args.specs.Words.{Text}
use Rattle.xsk_args.specs.Program.{behind}

all_digits : (text : Text) → list_all (λ c. is_digit c 16) text ≡ true → AllDigits 16 text
all_digits [] h = tt
all_digits (c ∷ cs) h = let parts = both _ _ h in (ltb-true (digit_value c) 16 parts.0, all_digits cs parts.1)

no_plus : (text : Text) → AllDigits 16 text → without_leading_plus text ≡ text
no_plus [] h = refl
no_plus (c ∷ cs) h = ap (λ b. drop (cond b 1 0) (c ∷ cs)) (ne_eqb c 43 (λ plus. omega (arith, subst (λ n. digit_value n < 16) plus h.0)))

pub kind_read : {E : Type 0} (text : Text) (r : Result ℕ E) → ParsesUnsigned 16 16 text r → list_all (λ c. is_digit c 16) text ≡ true → length text ≡ 4
    → result_ok r ≡ Some (digits_value 16 text)
kind_read {E = E} text r parses digits four = go r parses
  where
    all : AllDigits 16 text
    all = all_digits text digits

    below : digits_value 16 text < 65536
    below = subst (λ n. digits_value 16 text < 16 ^ n) four (digits_value-lt 16 text all)

    go : (r : Result ℕ E) → ParsesUnsigned 16 16 text r → result_ok r ≡ Some (digits_value 16 text)
    go (Ok n) h = ap Some (h.1 ∙ ap (digits_value 16) (no_plus text all))
    go (Err e) h = absurd (h (subst (λ t. IsNumeral 16 t × (digits_value 16 t < 65536)) (sym (no_plus text all)) ((omega (arith, four), all), below)))

not_true : (b : Bool) → (b ≡ true → ⊥) → b ≡ false
not_true true h = absurd (h refl)
not_true false h = refl

-- what stands behind a front
module _ (front text : Text) where
  pub has_front : (n : ℕ) → n ≡ length front → text ≡ front ++ drop n text → Some (drop n text) ≡ behind front text
  has_front n is parts =
      let fronts : take (length front) text ≡ front = ap (take (length front)) parts ∙ take-append_seam front (drop n text) in
      ap (λ k. Some (drop k text)) is
      ∙ ap (λ b. cond b (Some (drop (length front) text)) None) (sym ((bytes_eq-Decides (take (length front) text) front).1 fronts))

  pub no_front : ((rest : Text) → text ≢ front ++ rest) → None ≡ behind front text
  no_front lacks = ap (λ b. cond b (Some (drop (length front) text)) None) (sym (not_true (bytes_eq (take (length front) text) front)
      (λ e. lacks (drop (length front) text) (sym (take-append-drop (length front) text) ∙ ap (λ ts. ts ++ drop (length front) text) ((bytes_eq-Decides (take (length front) text) front).0 e)))))

  pub stripped : (r : Option (Bor (List ℕ))) → MatchOption r (FindsTextPrefix front text None) (λ x. StripsPrefix (FindsTextPrefix front) text x.now)
      → option_map (λ rest. rest.now) r ≡ behind front text
  stripped None h = no_front h
  stripped (Some x) h = ap Some h.2 ∙ has_front h.0 h.1.0 h.1.1
