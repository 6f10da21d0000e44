-- How a text grows.
use Rattle.std.proofs.Common.{◌≡◌, ◌∙◌, refl, sym, ap, subst, ℕ, suc, ◌+◌, ◌==◌, false, Option, Some, None, List, [], ◌∷◌, ◌++◌, append_assoc, arith}
use Rattle.std.specs.Prelude.{flat_map, codes, is_none, OnOk, Result, Ok, Err}
use Rattle.std.specs.List.{range_with_len}
use Rattle.std.proofs.lemmas.List.{flat_map_more}
use Rattle.xsk_model.proofs.Counting.{range-push}
use Rattle.xsk_side.proofs.Rings.{is_false}
use Rattle.xsk_hints.specs.Told.{numbered, start_line, where_some}

-- one piece after another
pub after : (t a b u v : List ℕ) → u ≡ t ++ a → v ≡ u ++ b → v ≡ t ++ (a ++ b)
after t a b u v e h = h ∙ ap (λ (text : List ℕ). text ++ b) e ∙ append_assoc t a b

pub on_ok : {A E : Type 0} (r : Result A E) (P Q : Type 0) → (P → Q) → OnOk r P → OnOk r Q
on_ok (Ok a) P Q f h = f h
on_ok (Err e) P Q f h = tt

-- a piece that tells something else, which is the same
pub as_told : {X : Type 0} (f : X → List ℕ) (t u : List ℕ) (x y : X) → x ≡ y → u ≡ t ++ f x → u ≡ t ++ f y
as_told f t u x y e h = subst (λ z. u ≡ t ++ f z) e h

pub retold : {X : Type 0} (f : X → List ℕ) (t u : List ℕ) (x y : X) → u ≡ t ++ f x → x ≡ y → u ≡ t ++ f y
retold f t u x y h e = subst (λ z. u ≡ t ++ f z) e h

-- what is there is told
pub where_there : (size : Option ℕ) (text : List ℕ) → is_none size ≡ false → where_some size text ≡ text
where_there None text h = absurd (cc)
where_there (Some size) text h = refl

pub started : (n : ℕ) → (n == 0) ≡ false → start_line n ≡ numbered (codes "frames with the program from the start: ") n ++ codes "\n"
started n h = is_false (n == 0) [] (numbered (codes "frames with the program from the start: ") n ++ codes "\n") h

one_more : (n : ℕ) → range_with_len 0 (n + 1) ≡ range_with_len 0 n ++ n ∷ []
one_more n =
    let on : n + 1 ≡ suc n = omega arith in
    let last : 0 + n ≡ n = omega arith in
    ap (range_with_len 0) on ∙ range-push 0 n ∙ ap (λ k. range_with_len 0 n ++ k ∷ []) last

-- one line more, by its number
pub line_more : (f : ℕ → List ℕ) (n : ℕ) (t u v : List ℕ) → u ≡ t ++ flat_map f (range_with_len 0 n) → v ≡ u ++ f n → v ≡ t ++ flat_map f (range_with_len 0 (n + 1))
line_more f n t u v e h =
    h ∙ ap (λ (text : List ℕ). text ++ f n) e ∙ flat_map_more f t (range_with_len 0 n) n ∙ ap (λ (ns : List ℕ). t ++ flat_map f ns) (sym (one_more n))
