-- The rows of tables, one table after another.
use Rattle.std.proofs.Common.{◌≡◌, ◌∙◌, ◌<◌, ◌+◌, ◌++◌, ℕ, suc, zero, sym, ap, fold, arith, List, [], ◌∷◌, length, take, get_or, append-nil, append_assoc}
use native.Mathlib.Numerals.{unary_clauses}
use Rattle.std.specs.List.{flat_map}
use Rattle.std.proofs.lemmas.List.Sums.{fold-append}

rows_next : {A B : Type 0} (f : A → List B) (tables : List A) (i : ℕ) (d : A) → i < length tables
    → flat_map f (take (suc i) tables) ≡ flat_map f (take i tables) ++ f (get_or tables i d)
rows_next f [] i d lt = absurd (omega (arith, lt))
rows_next f (table ∷ tables) zero d lt = append-nil (f table)
rows_next f (table ∷ tables) (suc i) d lt =
    ap (λ rows. f table ++ rows) (rows_next f tables i d (omega (arith, lt))) ∙ sym (append_assoc (f table) (flat_map f (take i tables)) (f (get_or tables i d)))

-- what is made of the rows of a table, after those of the tables before it
pub table_next : {A B C : Type 0} (f : A → List B) (add : C → B → C) (start now next : C) (tables : List A) (i : ℕ) (d : A) → i < length tables
    → now ≡ fold add start (flat_map f (take i tables)) → next ≡ fold add now (f (get_or tables i d)) → next ≡ fold add start (flat_map f (take (i + 1) tables))
table_next f add start now next tables i d lt before is = simp unary_clauses (
    is ∙ ap (λ made. fold add made (f (get_or tables i d))) before ∙ sym (fold-append add start (flat_map f (take i tables)) (f (get_or tables i d))) ∙ ap (fold add start) (sym (rows_next f tables i d lt))
    )
