-- What the words of a command mean. This project's own.
use Rattle.std.specs.Prelude.{◌≡◌, ℕ, codes, Bool, true, false, List, [], ◌∷◌, Option, Some, None, is_some, find, map, slice_get, option_and_then, option_map, if◌then◌else◌}
use Rattle.std.specs.List.{list_all, list_any}
use Rattle.std.specs.Option.{option_map_or}
use Rattle.std.specs.Str.{bytes_eq}
use Rattle.xsk_args.specs.Words.{Text, Stated, Said, said_of, spoken}
use Rattle.xsk_args.specs.Number.{number_in}
use Rattle.xsk_args.specs.Program.{programs_in}
use Rattle.xsk_args.specs.declared.table.OptionRow.{OptionRow}
use Rattle.xsk_args.specs.declared.table.Takes.{Takes}
use Rattle.xsk_args.specs.declared.table.Takes.TheVariants.{Nothing, Number, Program, OneOf, AnyText}
use Rattle.xsk_args.specs.declared.table.Unsaid.{Unsaid}
use Rattle.xsk_args.specs.declared.table.Unsaid.TheVariants as unsaid

-- what value an option takes: none, a number, programs, one of some words, or any word
pub data Asked : Type 0 where
  nothing : Asked
  a_number : Asked
  a_program : Asked
  one_of : List Text → Asked
  any_text : Asked

abbrev pub asked : Takes → Asked
asked Nothing = nothing
asked Number = a_number
asked Program = a_program
asked (OneOf words) = one_of (map (λ word. word.now) words.now)
asked AnyText = any_text

abbrev pub has_value : Asked → Bool
has_value nothing = false
has_value a_number = true
has_value a_program = true
has_value (one_of words) = true
has_value any_text = true

-- an option by its name and by what it takes
abbrev pub Key : Type 0
Key = Text × Asked

abbrev pub stated_by : Key → Stated
stated_by key = record { name = key.0; has_value = has_value key.1 }

-- the key of a row
abbrev pub key_of : OptionRow → Key
key_of row = (row.name.now, asked row.takes)

abbrev pub stated : OptionRow → Stated
stated row = stated_by (key_of row)

-- the number that stands where an option isn't said, and 0 where none does
abbrev pub number_unsaid : Unsaid → ℕ
number_unsaid (unsaid.Number number) = number
number_unsaid (unsaid.Told words) = 0

-- what was said under each name: the values of an option, none for a flag, and the files under `FILE`
abbrev pub Meaning : Type 0
Meaning = Text → Option (List Text)

-- the value of an option, where it was said and has one
abbrev pub one_value : Option (List Text) → Option Text
one_value = option_and_then (λ values. slice_get values 0)

-- the number that was said of an option, where one was
abbrev pub number_said : Meaning → Text → Option ℕ
number_said said name = option_and_then number_in (one_value (said name))

-- the option takes this value
abbrev pub is_taken : Asked → Text → Bool
is_taken nothing value = true
is_taken a_number value = is_some (number_in value)
is_taken a_program value = is_some (programs_in value)
is_taken (one_of words) value = list_any (bytes_eq value) words
is_taken any_text value = true

-- what was said under the option's name is what it takes
abbrev pub fits_by : Meaning → Key → Bool
fits_by said key = option_map_or (is_taken key.1) (one_value (said key.0)) true

abbrev pub fits : Meaning → OptionRow → Bool
fits said row = fits_by said (key_of row)

abbrev pub fitting : List Key → Meaning → Option Meaning
fitting table said = if list_all (fits_by said) table then Some said else None

-- the meaning of the words behind the command's name
abbrev pub meant : List Key → List Text → Option Meaning
meant table words = option_and_then (λ said. fitting table (λ option. said_of option said)) (spoken (map stated_by table) words)

-- the meaning of words, where they are the command with this name and these options
abbrev pub meaning : Text → List Key → List Text → Option Meaning
meaning name table [] = None
meaning name table (first ∷ rest) =
    if bytes_eq first name then meant table rest else None

-- what a list of names with their values says under each name
abbrev pub under : List Said → Meaning
under said name = option_map (λ one. one.1) (find (λ one. bytes_eq one.0 name) said)

-- no row has the name of the files
abbrev pub HasNoFileRow : List OptionRow → Type 0
HasNoFileRow table = find (λ s. bytes_eq s.name (codes "FILE")) (map stated table) ≡ None
