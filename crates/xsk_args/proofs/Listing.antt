-- Programs with commas between them.
use Rattle.std.proofs.Common.{if◌then◌else◌, ◌≡◌, ◌≢◌, ◌∙◌, ◌<◌, ◌+◌, ◌++◌, ℕ, suc, Bool, true, false, eqb, nat_le, refl, sym, ap, arith, List, [], ◌∷◌, length, get_or, length-append, append-nil, append_assoc, Option, Some, None}
use Rattle.std.specs.Option.{option_map, option_and_then}
use Rattle.std.specs.List.{onto_first}
use Rattle.std.proofs.lemmas.List.Splits.{slice_split-cons_no}
use Rattle.std.proofs.lemmas.Bool.{ne_eqb, lt-leb, le-leb}
use Rattle.xsk_args.specs.Words.{Text}
use Rattle.xsk_args.specs.Program.{between_commas, program_in, programs_in, programs_of}
use Rattle.xsk_args.specs.declared.program.Program.{Program}

-- ---- the texts between commas

abbrev pub HasNoComma : Text → Type 0
HasNoComma text = (i : ℕ) → i < length text → get_or text i 0 ≢ 44

abbrev is_comma : ℕ → Bool
is_comma code = eqb code 44

later : (code : ℕ) (text : Text) → HasNoComma (code ∷ text) → HasNoComma text
later code text h i known = h (suc i) (omega (arith, known))

is_other : (code : ℕ) (text : Text) → HasNoComma (code ∷ text) → eqb code 44 ≡ false
is_other code text h = ne_eqb code 44 (h 0 (omega arith))

pub cut_at : (first later : Text) → HasNoComma first → between_commas (first ++ 44 ∷ later) ≡ first ∷ between_commas later
cut_at [] rest h = refl
cut_at (code ∷ first) rest h =
    slice_split-cons_no is_comma code (first ++ 44 ∷ rest) (is_other code first h) ∙ ap (onto_first code) (cut_at first rest (later code first h))

pub uncut : (text : Text) → HasNoComma text → between_commas text ≡ text ∷ []
uncut [] h = refl
uncut (code ∷ text) h = slice_split-cons_no is_comma code text (is_other code text h) ∙ ap (onto_first code) (uncut text (later code text h))

-- ---- the programs before them, and those that they are

abbrev pub listed_with : List Program → List Text → Option (List Program)
listed_with programs texts = if nat_le (length programs + length texts) 8 then option_map (λ more. programs ++ more) (programs_of texts) else None

none_before : (r : Option (List Program)) → option_map (λ (more : List Program). [] ++ more) r ≡ r
none_before None = refl
none_before (Some more) = refl

pub listed_first : (text : Text) → programs_in text ≡ listed_with [] (between_commas text)
listed_first text =
    ap (λ r. if nat_le (length (between_commas text)) 8 then r else None) (sym (none_before (programs_of (between_commas text))))
    ∙ ap (λ n. if nat_le n 8 then option_map (λ (more : List Program). [] ++ more) (programs_of (between_commas text)) else None) (omega arith)

more_with : (programs : List Program) (program : Program) (r : Option (List Program))
    → option_map (λ more. programs ++ more) (option_map (λ more. program ∷ more) r) ≡ option_map (λ more. (programs ++ program ∷ []) ++ more) r
more_with programs program None = refl
more_with programs program (Some more) = ap Some (sym (append_assoc programs (program ∷ []) more))

pub one_more : (programs : List Program) (program : Program) (text : Text) (texts : List Text) → program_in text ≡ Some program
    → listed_with programs (text ∷ texts) ≡ listed_with (programs ++ program ∷ []) texts
one_more programs program text texts is =
    ap (λ r. if nat_le (length programs + suc (length texts)) 8 then option_map (λ more. programs ++ more) (option_and_then (λ p. option_map (λ more. p ∷ more) (programs_of texts)) r) else None) is
    ∙ ap (λ r. if nat_le (length programs + suc (length texts)) 8 then r else None) (more_with programs program (programs_of texts))
    ∙ ap (λ n. if nat_le n 8 then option_map (λ more. (programs ++ program ∷ []) ++ more) (programs_of texts) else None) (omega (arith, length-append programs (program ∷ [])))

pub last_more : (programs : List Program) (program : Program) (text : Text) → program_in text ≡ Some program → length programs < 8
    → listed_with programs (text ∷ []) ≡ Some (programs ++ program ∷ [])
last_more programs program text is few =
    one_more programs program text [] is
    ∙ ap (λ b. if b then Some ((programs ++ program ∷ []) ++ []) else None) (le-leb (length (programs ++ program ∷ []) + 0) 8 (omega (arith, few, length-append programs (program ∷ []))))
    ∙ ap Some (append-nil (programs ++ program ∷ []))

pub none_here : (programs : List Program) (text : Text) (texts : List Text) → program_in text ≡ None → listed_with programs (text ∷ texts) ≡ None
none_here programs text texts is = by (nat_le (length programs + suc (length texts)) 8)
  where
    by : (b : Bool) → (if b then option_map (λ more. programs ++ more) (option_and_then (λ p. option_map (λ more. p ∷ more) (programs_of texts)) (program_in text)) else None) ≡ None
    by true = ap (λ r. option_map (λ more. programs ++ more) (option_and_then (λ p. option_map (λ more. p ∷ more) (programs_of texts)) r)) is
    by false = refl

pub none_beyond : (programs : List Program) (text : Text) (texts : List Text) → length programs ≡ 8 → listed_with programs (text ∷ texts) ≡ None
none_beyond programs text texts full =
    ap (λ b. if b then option_map (λ more. programs ++ more) (programs_of (text ∷ texts)) else None) (lt-leb (length programs + suc (length texts)) 8 (omega (arith, full)))
