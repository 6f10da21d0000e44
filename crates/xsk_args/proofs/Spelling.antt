-- Words that are text begin as clap's walk over words needs it.
use Rattle.std.proofs.Common.{◌≡◌, ◌∙◌, ◌+◌, ◌<◌, ℕ, Bool, cond, true, false, zero, suc, refl, sym, ap, subst, arith, List, [], ◌∷◌, map, length, take, Some, None}
use Rattle.std.specs.List.{slice_index_or}
use Rattle.std.specs.Str.{IsUtf8, chars}
use Rattle.std.specs.Char.{encode_utf8}
use Rattle.std.specs.Prelude.{slice_get, option_and_then, ◌==◌}
use Rattle.std.proofs.lemmas.Str.{IsUtf8-past_char, encodes-chars}
use Rattle.std.proofs.lemmas.Bool.{eqb-true}
use Rattle.std.proofs.Math.Utf8.{encodes}
use Rattle.clap.specs.Lexer.{short_of_rest}
use Rattle.xsk_args.specs.Rules.{IsSpelled, AreSpelled}
use Rattle.xsk_args.specs.Words.{Text}
use Rattle.xsk_args.proofs.Cutting.{some≢none, some_same}

cons≢nil : (x : ℕ) (xs : Text) → (x ∷ xs) ≡ [] → ⊥
cons≢nil x xs e = cc

first_char : (x : ℕ) (flags : Text) → IsUtf8 (x ∷ flags) → (y : ℕ) × (slice_get (chars (x ∷ flags)) 0 ≡ Some y)
first_char x flags text = go (chars (x ∷ flags)) refl
  where
    go : (cs : List ℕ) → chars (x ∷ flags) ≡ cs → (y : ℕ) × (slice_get (chars (x ∷ flags)) 0 ≡ Some y)
    go [] e = absurd (cons≢nil x flags (sym (encodes-chars (x ∷ flags) text) ∙ ap encodes e))
    go (y ∷ ys) e = (y, ap (λ cs. slice_get cs 0) e)

pub spelled_word : (word : Text) → IsUtf8 word → IsSpelled word
unfolding encode_utf8
spelled_word [] text x flags s = absurd (some≢none _ (sym s))
spelled_word (c ∷ rest) text x flags s = go (c == 45) refl s
  where
    inner : (rest : Text) → IsUtf8 rest → short_of_rest rest ≡ Some (x ∷ flags) → IsUtf8 (x ∷ flags)
    inner [] u e = absurd (some≢none _ (sym e))
    inner (y ∷ ys) u e = pick (y == 45) e
      where
        pick : (b : Bool) → cond b None (Some (y ∷ ys)) ≡ Some (x ∷ flags) → IsUtf8 (x ∷ flags)
        pick true e = absurd (some≢none _ (sym e))
        pick false e = subst IsUtf8 (some_same _ _ e) u

    go : (b : Bool) → (c == 45) ≡ b → option_and_then short_of_rest (cond b (Some rest) None) ≡ Some (x ∷ flags) → (y : ℕ) × (slice_get (chars (x ∷ flags)) 0 ≡ Some y)
    go false e h = absurd (some≢none _ (sym h))
    go true e h =
        let past : IsUtf8 rest = IsUtf8-past_char (c ∷ rest) rest 45 text (ap (λ n. n ∷ rest) (eqb-true c 45 e)) in
        first_char x flags (inner rest past h)

spelled_suc : {X : Type 0} (f : X → Text) (xs : List X) (i : ℕ) (d : X) → i < length xs → AreSpelled (map f (take i xs)) → IsSpelled (f (slice_index_or xs i d)) → AreSpelled (map f (take (suc i) xs))
spelled_suc f [] i d lt s w = absurd (omega arith)
spelled_suc f (x ∷ xs) zero d lt s w = (w, tt)
spelled_suc f (x ∷ xs) (suc i) d lt s w = (s.0, spelled_suc f xs i d (omega arith) s.1 w)

-- one more word
pub spelled_more : {X : Type 0} (f : X → Text) (xs : List X) (i : ℕ) (d : X) → i < length xs → AreSpelled (map f (take i xs)) → IsSpelled (f (slice_index_or xs i d)) → AreSpelled (map f (take (i + 1) xs))
spelled_more f xs i d lt s w =
    let next : suc i ≡ i + 1 = omega arith in
    subst (λ k. AreSpelled (map f (take k xs))) next (spelled_suc f xs i d lt s w)
