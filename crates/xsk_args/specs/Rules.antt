-- What clap is told of a table of options, and what its matches tell. This project's own.
use Rattle.std.specs.Prelude.{◌≡◌, ℕ, Bool, true, false, List, [], ◌∷◌, ◌++◌, codes, map, Option, Some, None, slice_get}
use Rattle.std.specs.Str.{chars}
use Rattle.clap.specs.Lexer.{short_of}
use Rattle.clap.specs.Simple.{App, new_shape}
use Rattle.clap.specs.Words.{Row, Rule, all_of, found_of, new_rule, rows_of}
use Rattle.clap.specs.declared.builder.range.ValueRange.{ValueRange}
use Rattle.clap.specs.declared.builder.action.ArgAction.TheVariants.{Set, Append}
use Rattle.clap.specs.declared.parser.matches.ArgMatches.{ArgMatches}
use Rattle.xsk_args.specs.Words.{Said, Stated, Table, Text, said_of}

abbrev pub range_told : Bool → Option ValueRange
range_told true = None
range_told false = Some (record { start_inclusive = 0; end_inclusive = 0 })

abbrev pub option_rule : Stated → Rule
option_rule s = record (new_rule s.name) { long = Some s.name; action = Some Set; range = range_told s.has_value }

abbrev pub files_rule : Rule
files_rule = record (new_rule (codes "FILE")) { action = Some Append; required = true }

abbrev pub command_app : Table → App
command_app table = record {
  top = record (new_shape (codes "xsk")) {
    rules = map option_rule table ++ files_rule ∷ [];
    no_binary_name = true;
    disable_help_flag = true;
    disable_help_subcommand = true;
  };
  subs = [];
}

-- the rows as names with their values
abbrev pub said_by : List Row → List Said
said_by = map (λ row. (row.id, row.values))

-- the matches have what was said under each name
abbrev pub Tells : ArgMatches → List Said → Type 0
Tells m said = (name : Text) → all_of name (rows_of (found_of m)) ≡ said_of name said

abbrev pub IsToldBy : ArgMatches → Option (List Said) → Type 0
IsToldBy m words = (said : List Said) × (words ≡ Some said) × Tells m said

-- a word that has one hyphen goes on with a character
abbrev pub IsSpelled : Text → Type 0
IsSpelled word = (x : ℕ) (flags : Text) → short_of word ≡ Some (x ∷ flags) → (y : ℕ) × (slice_get (chars (x ∷ flags)) 0 ≡ Some y)

abbrev pub AreSpelled : List Text → Type 0
AreSpelled [] = Unit {0}
AreSpelled (word ∷ rest) = IsSpelled word × AreSpelled rest
