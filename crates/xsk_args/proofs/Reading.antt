-- What is read of a value.
use Rattle.std.proofs.Common.{◌≡◌, ◌∙◌, ◌<◌, ◌^◌, ◌&&◌, ℕ, Bool, cond, true, false, refl, sym, ap, lt-ltb, ltb-true, List, [], ◌∷◌, map, length, Option, Some, None, is_some, Result, Ok, Err}
use Rattle.std.specs.List.{find, list_all}
use Rattle.std.specs.Option.{option_map, option_map_or}
use Rattle.std.specs.Prelude.{nat_lt, option_and_then, slice_get}
use Rattle.std.specs.Result.{OkIff, result_ok}
use Rattle.std.specs.Str.{all_ascii_digits, bytes_eq}
use Rattle.std.specs.Str.Parse.{ParsesUnsigned, digits_value}
use Rattle.std.proofs.lemmas.Str.Parse.{IsNumeralModel, numerals_by_value, parse_digits, tells_all_ascii_digits}
use Rattle.clap.specs.Words.{Row, all_of, first_value, found_of, matched_of, raw_values, rows_of}
use Rattle.clap.specs.declared.parser.matches.Found.{Found}
use Rattle.clap.specs.declared.parser.matches.MatchedArg.{MatchedArg}
use Rattle.clap.proofs.WalkLemmas.{both, first_value-rows, raw_values-rows}
use Rattle.xsk_args.specs.Words.{Text, said_of, spoken}
use Rattle.xsk_args.specs.Number.{number_in}
use Rattle.xsk_args.specs.Meaning.{Meaning, asked, fits, fits_by, fitting, is_taken, key_of, meant, one_value, stated, stated_by, under}
use Rattle.xsk_args.specs.Rules.{IsToldBy, said_by}
use Rattle.xsk_args.specs.declared.table.OptionRow.{OptionRow}
use Rattle.clap.specs.declared.parser.matches.ArgMatches.{ArgMatches}

-- ---- numbers

digits_own : IsNumeralModel (λ ds. all_ascii_digits ds ≡ true) (digits_value 10)
digits_own = numerals_by_value (λ ds. all_ascii_digits ds ≡ true) tells_all_ascii_digits

pub number_read : {E : Type 0} (text : Text) (r : Result ℕ E) → ParsesUnsigned 32 10 text r → all_ascii_digits text ≡ true → length text < 11 → result_ok r ≡ number_in text
number_read {E = E} text r h p short = go r (parse_digits digits_own 32 text r h p)
  where
    go : (r : Result ℕ E) → OkIff r ((0 < length text) × (digits_value 10 text < 2 ^ 32)) (digits_value 10 text) → result_ok r ≡ number_in text
    go (Ok n) h =
        let below : digits_value 10 text < 4294967296 = h.0.1 in
        rw (p, lt-ltb (length text) 11 short, lt-ltb 0 (length text) h.0.0, lt-ltb (digits_value 10 text) 4294967296 below) (ap (λ x. Some x) h.1)
    go (Err e) h = pick (nat_lt 0 (length text) && nat_lt (digits_value 10 text) 4294967296) refl
      where
        pick : (b : Bool) → (nat_lt 0 (length text) && nat_lt (digits_value 10 text) 4294967296) ≡ b → None ≡ number_in text
        pick false t = rw (p, lt-ltb (length text) 11 short, t) refl
        pick true t =
            let parts = both _ _ t in
            absurd (h (ltb-true 0 (length text) parts.0, ltb-true (digits_value 10 text) 4294967296 parts.1))

-- ---- what the matches tell

pub first_told : (f : Found) (id : Text) (o : Option Text) → o ≡ first_value f id → o ≡ one_value (all_of id (rows_of f))
first_told f id o e = e ∙ first_value-rows f id ∙ go (find (λ (r : Row). bytes_eq r.id id) (rows_of f))
  where
    go : (o : Option Row) → option_and_then (λ (r : Row). slice_get r.values 0) o ≡ one_value (option_map (λ (r : Row). r.values) o)
    go None = refl
    go (Some r) = refl

pub told_so : (f : Found) (id : Text) → is_some (matched_of f id) ≡ is_some (all_of id (rows_of f))
told_so f id = go (matched_of f id) ∙ ap (λ o. is_some o) (raw_values-rows f id)
  where
    go : (o : Option MatchedArg) → is_some o ≡ is_some (option_map raw_values o)
    go None = refl
    go (Some a) = refl

pub all_told : (f : Found) (id : Text) (o : Option (List Text)) → o ≡ option_map raw_values (matched_of f id) → o ≡ all_of id (rows_of f)
all_told f id o e = e ∙ raw_values-rows f id

pub under_rows : (name : Text) (rows : List Row) → under (said_by rows) name ≡ all_of name rows
under_rows name [] = refl
under_rows name (row ∷ rows) = go (bytes_eq row.id name) (under_rows name rows)
  where
    go : (b : Bool) → under (said_by rows) name ≡ all_of name rows
        → option_map (λ (one : Text × List Text). one.1) (cond b (Some (row.id, row.values)) (find (λ (one : Text × List Text). bytes_eq one.0 name) (said_by rows)))
        ≡ option_map (λ (r : Row). r.values) (cond b (Some row) (find (λ (r : Row). bytes_eq r.id name) rows))
    go true h = refl
    go false h = h

-- ---- what it means

-- a table by its keys
keyed : (table : List OptionRow) → map stated_by (map key_of table) ≡ map stated table
keyed [] = refl
keyed (row ∷ table) = ap (λ ss. stated row ∷ ss) (keyed table)

fits_keyed : (said : Meaning) (table : List OptionRow) → list_all (fits_by said) (map key_of table) ≡ list_all (fits said) table
fits_keyed said [] = refl
fits_keyed said (row ∷ table) = ap (λ b. fits said row && b) (fits_keyed said table)

told_to : (m : ArgMatches) (table : List OptionRow) (words : List Text) → IsToldBy m (spoken (map stated table) words)
    → meant (map key_of table) words ≡ fitting (map key_of table) (λ name. all_of name (rows_of (found_of m)))
told_to m table words (said, is, tells) =
    let back : (name : Text) → said_of name said ≡ all_of name (rows_of (found_of m)) = λ name. sym (tells name) in
    ap (λ t. option_and_then (λ said. fitting (map key_of table) (λ name. said_of name said)) (spoken t words)) (keyed table)
    ∙ ap (option_and_then (λ said. fitting (map key_of table) (λ name. said_of name said))) is ∙ (λ i. fitting (map key_of table) (λ name. back name i))

pub meant_some : (m : ArgMatches) (table : List OptionRow) (words : List Text) → IsToldBy m (spoken (map stated table) words)
    → list_all (fits (λ name. all_of name (rows_of (found_of m)))) table ≡ true
    → meant (map key_of table) words ≡ Some (under (said_by (rows_of (found_of m))))
meant_some m table words told fit =
    let shown : (name : Text) → all_of name (rows_of (found_of m)) ≡ under (said_by (rows_of (found_of m))) name = λ name. sym (under_rows name (rows_of (found_of m))) in
    told_to m table words told
    ∙ ap (λ (b : Bool). cond b (Some (λ (name : Text). all_of name (rows_of (found_of m)))) None) (fits_keyed (λ name. all_of name (rows_of (found_of m))) table ∙ fit)
    ∙ (λ i. Some (λ name. shown name i))

pub meant_none : (m : ArgMatches) (table : List OptionRow) (words : List Text) → IsToldBy m (spoken (map stated table) words)
    → list_all (fits (λ name. all_of name (rows_of (found_of m)))) table ≡ false → meant (map key_of table) words ≡ None
meant_none m table words told fit = told_to m table words told
    ∙ ap (λ (b : Bool). cond b (Some (λ (name : Text). all_of name (rows_of (found_of m)))) None) (fits_keyed (λ name. all_of name (rows_of (found_of m))) table ∙ fit)

pub meant_unspoken : (table : List OptionRow) (words : List Text) → spoken (map stated table) words ≡ None → meant (map key_of table) words ≡ None
meant_unspoken table words none =
    ap (λ t. option_and_then (λ said. fitting (map key_of table) (λ name. said_of name said)) (spoken t words)) (keyed table)
    ∙ ap (option_and_then (λ said. fitting (map key_of table) (λ name. said_of name said))) none

pub fits_said : (said : Meaning) (row : OptionRow) (value : Option Text) → value ≡ one_value (said row.name.now)
    → option_map_or (is_taken (asked row.takes)) value true ≡ fits said row
fits_said said row value told = ap (λ o. option_map_or (is_taken (asked row.takes)) o true) told
