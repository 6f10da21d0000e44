-- How the words of a command are cut into options with their values, and files. This project's own.
use Rattle.std.specs.Prelude.{◌&&◌, ◌||◌, ◌==◌, ℕ, Bool, true, false, not, List, [], ◌∷◌, ◌++◌, codes, Option, Some, None, is_some, find, unwrap_or, if◌then◌else◌}
use Rattle.std.specs.List.{list_any, before_first, after_first}
use Rattle.std.specs.Str.{bytes_eq}

abbrev pub Text : Type 0
Text = List ℕ

-- an option of a command: its name, and whether it takes a value
pub record Stated : Type 0 where
  pub name : Text
  pub has_value : Bool

abbrev pub Table : Type 0
Table = List Stated

-- what was said: an option's name with its value, a flag's name with none, or `FILE` with a file
abbrev pub Said : Type 0
Said = Text × List Text

abbrev pub file : Text → Said
file word = (codes "FILE", word ∷ [])

-- the word begins with `-` (45) and is longer than one character
abbrev pub is_dashed : Text → Bool
is_dashed (x ∷ y ∷ rest) = x == 45
is_dashed _ = false

-- `--name` or `--name=value` (61 is `=`), as the name and the value
abbrev pub named : Text → Option (Text × Option Text)
named (x ∷ y ∷ z ∷ rest) = if (x == 45) && (y == 45) then Some (
  before_first (λ b. b == 61) (z ∷ rest),
  if list_any (λ b. b == 61) (z ∷ rest) then Some (after_first (λ b. b == 61) (z ∷ rest)) else None,
) else None
named _ = None

-- a word before `--`: it breaks a rule, its value is the next word, or it says something
pub data Word : Type 0 where
  breaks : Word
  opens : Text → Word
  says : Said → Word

abbrev pub option_read : Option Stated → Option Text → Word
option_read None value = breaks
option_read (Some s) (Some v) = if s.has_value then says (s.name, v ∷ []) else breaks
option_read (Some s) None = if s.has_value then opens s.name else says (s.name, [])

abbrev pub name_read : Table → Option (Text × Option Text) → Word
name_read table None = breaks
name_read table (Some p) = option_read (find (λ s. bytes_eq s.name p.0) table) p.1

abbrev pub word_read : Table → Text → Word
word_read table word = if is_dashed word then name_read table (named word) else says (file word)

-- between two words: any may come, the value of an option has to, or all that come are files
pub data State : Type 0 where
  ready : State
  awaits : Text → State
  ended : State

abbrev pub is_end : Text → Bool
is_end word = bytes_eq word (45 ∷ 45 ∷ [])

abbrev pub read_on : Word → (State → Option (List Said)) → (Said → Option (List Said)) → Option (List Said)
read_on breaks await go = None
read_on (opens name) await go = await (awaits name)
read_on (says s) await go = go s

-- what the words say, the last first, after what was said before them
abbrev pub cut : Table → List Said → State → List Text → Option (List Said)
cut table said ready [] = Some said
cut table said (awaits name) [] = None
cut table said ended [] = Some said
cut table said ready (word ∷ rest) = if is_end word then cut table said ended rest
    else read_on (word_read table word) (λ state. cut table said state rest) (λ s. cut table (s ∷ said) ready rest)
cut table said (awaits name) (word ∷ rest) =
    if is_dashed word then None else cut table ((name, word ∷ []) ∷ said) ready rest
cut table said ended (word ∷ rest) = cut table (file word ∷ said) ended rest

-- all that was said under a name, in order
abbrev pub said_of : Text → List Said → Option (List Text)
said_of name [] = None
said_of name (s ∷ before) = if bytes_eq s.0 name then Some (unwrap_or (said_of name before) [] ++ s.1) else said_of name before

abbrev pub is_said : Text → List Said → Bool
is_said name said = is_some (said_of name said)

-- no option was said twice
abbrev pub is_once : List Said → Bool
is_once [] = true
is_once (s ∷ before) = (bytes_eq s.0 (codes "FILE") || not (is_said s.0 before)) && is_once before

-- no option twice, and at least one file
abbrev pub is_whole : List Said → Bool
is_whole said = is_once said && is_said (codes "FILE") said

-- the options and files of a command, where its words keep these rules
abbrev pub kept : List Said → Option (List Said)
kept said = if is_whole said then Some said else None

abbrev pub whole : Option (List Said) → Option (List Said)
whole None = None
whole (Some said) = kept said

abbrev pub spoken : Table → List Text → Option (List Said)
spoken table words = whole (cut table [] ready words)
