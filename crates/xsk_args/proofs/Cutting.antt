-- What clap's walk over words says, by the table of options.
use Rattle.std.proofs.Common.{◌≡◌, ◌∙◌, ◌&&◌, ◌||◌, ℕ, Bool, cond, codes, true, false, not, refl, sym, ap, ap₂, subst, List, [], ◌∷◌, ◌++◌, map, fold, length, Option, Some, None, is_some, true≢false}
use Rattle.std.specs.List.{find, list_all, list_any}
use Rattle.std.specs.Option.{option_map, option_map_or, unwrap_or}
use Rattle.std.specs.Str.{bytes_eq, chars}
use Rattle.std.specs.Char.{encode_utf8}
use Rattle.std.specs.Prelude.{slice_get, drop, option_and_then, ◌==◌}
use Rattle.std.proofs.lemmas.Slice.Eq.{bytes_eq-Decides}
use Rattle.clap.specs.Lexer.{long_of, long_of_rest, name_and_value, short_of, short_of_rest, strip_byte}
use Rattle.clap.specs.Facts.{explicit_source, unwrap_or_range}
use Rattle.clap.specs.Walk.{Held, Row, Rule, Walk, Waiting, idle, positional, all_of, arg_by_id, arg_by_index, arg_by_long, arg_by_short, at_row, has_row, with_values, without, walked, with_default, settled, settled_rows, used, nothing_held}
use Rattle.clap.specs.Walk as walk
use Rattle.clap.specs.Simple.{App, Shape, entered, new_rule, new_shape}
use Rattle.clap.specs.Takes.{is_given}
use Rattle.clap.specs.Kinds.{Kinds, or_else, range_kinds}
use Rattle.clap.specs.declared.error.kind.ErrorKind.TheVariants as kind
use Rattle.clap.specs.Faults.{action_fault, other_fault, flag_word_fault, bundle_fault, bundle_step_fault, short_fault, built_fault, entered_fault, level_fault, positional_fault, react_fault, option_fault, given_default_fault, repeat_fault, use_fault, values_fault, long_fault, step_fault, check_fault, defaults_fault, flags_fault, settle_fault, turn_fault, walk_fault}
use Rattle.clap.specs.declared.builder.value_parser.Reading.{Reading}
use Rattle.clap.specs.declared.builder.value_parser.ValueParser.TheVariants as vp
use Rattle.clap.specs.declared.builder.range.ValueRange.{ValueRange}
use Rattle.clap.specs.declared.builder.action.ArgAction.TheVariants.{Set, Append}
use Rattle.clap.specs.declared.parser.matches.ValueSource.{ValueSource}
use Rattle.clap.specs.declared.parser.matches.ValueSource.TheVariants.{DefaultValue, CommandLine}
use Rattle.xsk_args.specs.Rules.{AreSpelled}
use Rattle.xsk_args.specs.Words.{Text, Stated, Table, Said, State, Word, ready, awaits, ended, breaks, opens, says, cut, file, is_dashed, is_end, is_once, is_said, kept, named, name_read, option_read, read_on, said_of, spoken, whole, word_read}

abbrev range_of : Bool → ValueRange
range_of true = record { start_inclusive = 1; end_inclusive = 1 }
range_of false = record { start_inclusive = 0; end_inclusive = 0 }

-- an option's rule, as built
abbrev pub done_rule : Stated → Rule
done_rule s = record (new_rule s.name) { long = Some s.name; action = Some Set; range = Some (range_of s.has_value); parser = Some vp.String }

abbrev pub done_files : Rule
done_files = record (new_rule (codes "FILE")) { action = Some Append; required = true; range = Some (range_of true); parser = Some vp.String; index = Some 1 }

abbrev pub rules_by : Table → List Rule
rules_by t = map done_rule t ++ (done_files ∷ [])

abbrev pub by_name : Text → Stated → Bool
by_name name s = bytes_eq s.name name

-- ---- bytes

same_bytes : (a b : Text) → bytes_eq a b ≡ true → a ≡ b
same_bytes a b e = (bytes_eq-Decides a b).0 e

bytes_same : (a : Text) → bytes_eq a a ≡ true
bytes_same a = (bytes_eq-Decides a a).1 refl

-- ---- finding rules

find_long : (t : Table) (name : Text) → arg_by_long (rules_by t) name ≡ option_map done_rule (find (by_name name) t)
find_long [] name = refl
find_long (s ∷ t) name = go (bytes_eq s.name name) (find_long t name)
  where
    go : (b : Bool) → arg_by_long (rules_by t) name ≡ option_map done_rule (find (by_name name) t)
        → cond (b || false) (Some (done_rule s)) (arg_by_long (rules_by t) name) ≡ option_map done_rule (cond b (Some s) (find (by_name name) t))
    go true e = refl
    go false e = e

find_short : (t : Table) (x : ℕ) → arg_by_short (rules_by t) x ≡ None
find_short [] x = refl
find_short (s ∷ t) x = find_short t x

find_index : (t : Table) → arg_by_index (rules_by t) 1 ≡ Some done_files
find_index [] = refl
find_index (s ∷ t) = find_index t

find_id : (t : Table) (name : Text) → arg_by_id (rules_by t) name ≡ option_map_or (λ s. Some (done_rule s)) (find (by_name name) t) (arg_by_id (done_files ∷ []) name)
find_id [] name = refl
find_id (s ∷ t) name = go (bytes_eq s.name name) (find_id t name)
  where
    go : (b : Bool) → arg_by_id (rules_by t) name ≡ option_map_or (λ s. Some (done_rule s)) (find (by_name name) t) (arg_by_id (done_files ∷ []) name)
        → cond b (Some (done_rule s)) (arg_by_id (rules_by t) name) ≡ option_map_or (λ s. Some (done_rule s)) (cond b (Some s) (find (by_name name) t)) (arg_by_id (done_files ∷ []) name)
    go true e = refl
    go false e = e

pub some≢none : {X : Type 0} (x : X) → Some x ≡ None → ⊥
some≢none x e = true≢false (ap (λ o. is_some o) e)

pub some_same : {X : Type 0} (x y : X) → Some x ≡ Some y → x ≡ y
some_same x y e = ap (λ o. unwrap_or o x) e

-- what is found has the name
found_name : (t : Table) (name : Text) (s : Stated) → find (by_name name) t ≡ Some s → bytes_eq s.name name ≡ true
found_name [] name s e = absurd (some≢none s (sym e))
found_name (x ∷ t) name s e = go (bytes_eq x.name name) refl e (found_name t name s)
  where
    go : (b : Bool) → bytes_eq x.name name ≡ b → cond b (Some x) (find (by_name name) t) ≡ Some s
        → (find (by_name name) t ≡ Some s → bytes_eq s.name name ≡ true) → bytes_eq s.name name ≡ true
    go true q h more = subst (λ (y : Stated). bytes_eq y.name name ≡ true) (some_same x s h) q
    go false q h more = more h

found_id : (t : Table) (name : Text) (s : Stated) → find (by_name name) t ≡ Some s → arg_by_id (rules_by t) s.name ≡ Some (done_rule s)
found_id t name s e =
    let same : s.name ≡ name = same_bytes s.name name (found_name t name s e) in
    ap (arg_by_id (rules_by t)) same ∙ find_id t name ∙ ap (λ o. option_map_or (λ s. Some (done_rule s)) o (arg_by_id (done_files ∷ []) name)) e

files_id : (t : Table) → find (by_name (codes "FILE")) t ≡ None → arg_by_id (rules_by t) (codes "FILE") ≡ Some done_files
files_id t none = find_id t (codes "FILE") ∙ ap (λ o. option_map_or (λ s. Some (done_rule s)) o (Some done_files)) none

-- ---- rows

has_row_all : (id : Text) (rows : List Row) → has_row id rows ≡ is_some (all_of id rows)
has_row_all id [] = refl
has_row_all id (r ∷ rows) = go (bytes_eq r.id id) (has_row_all id rows)
  where
    go : (b : Bool) → has_row id rows ≡ is_some (all_of id rows) → (b || has_row id rows) ≡ is_some (option_map (λ (x : Row). x.values) (cond b (Some r) (find (λ x. bytes_eq x.id id) rows)))
    go true e = refl
    go false e = e

without_none : (id : Text) (rows : List Row) → has_row id rows ≡ false → without id rows ≡ rows
without_none id [] e = refl
without_none id (r ∷ rows) e = go (bytes_eq r.id id) e (without_none id rows)
  where
    go : (b : Bool) → (b || has_row id rows) ≡ false → (has_row id rows ≡ false → without id rows ≡ rows)
        → cond b ([] ++ rows) (r ∷ without id rows) ≡ r ∷ rows
    go true e more = absurd (true≢false e)
    go false e more = ap (λ rs. r ∷ rs) (more e)

-- each value comes from the words
abbrev Explicit : List Row → Type 0
Explicit rows = list_all (λ (r : Row). explicit_source r.source) rows ≡ true

stronger_is : (s : Option ValueSource) → walk.stronger s CommandLine ≡ CommandLine
stronger_is None = refl
stronger_is (Some DefaultValue) = refl
stronger_is (Some CommandLine) = refl

and_left : (a b : Bool) → (a && b) ≡ true → a ≡ true
and_left true b e = refl
and_left false b e = absurd (true≢false (sym e))

and_right : (a b : Bool) → (a && b) ≡ true → b ≡ true
and_right true b e = e
and_right false b e = absurd (true≢false (sym e))

explicit_more : (id : Text) (how : Reading) (vs : List Text) (rows : List Row) → Explicit rows → Explicit (with_values id how CommandLine vs rows)
explicit_more id how vs [] e = refl
explicit_more id how vs (r ∷ rows) e = go (bytes_eq r.id id) (and_right (explicit_source r.source) _ e) (explicit_more id how vs rows)
  where
    go : (b : Bool) → Explicit rows → (Explicit rows → Explicit (with_values id how CommandLine vs rows))
        → Explicit (cond b (walk.more_values CommandLine vs r ++ rows) (r ∷ with_values id how CommandLine vs rows))
    go true h more = rw (stronger_is r.source) h
    go false h more = rw (and_left (explicit_source r.source) _ e) (more h)

given_all : (id : Text) (rows : List Row) → Explicit rows → is_given id rows ≡ is_some (all_of id rows)
given_all id [] e = refl
given_all id (r ∷ rows) e = go (bytes_eq r.id id) (given_all id rows (and_right (explicit_source r.source) _ e))
  where
    go : (b : Bool) → is_given id rows ≡ is_some (all_of id rows)
        → option_map_or (λ (x : Row). explicit_source x.source) (cond b (Some r) (find (λ x. bytes_eq x.id id) rows)) false
        ≡ is_some (option_map (λ (x : Row). x.values) (cond b (Some r) (find (λ x. bytes_eq x.id id) rows)))
    go true h = and_left (explicit_source r.source) _ e
    go false h = h

abbrev put : Bool → List Text → Option (List Text) → Option (List Text)
put b vs o = cond b (Some (unwrap_or o [] ++ vs)) o

all_more : (id : Text) (how : Reading) (vs : List Text) (rows : List Row) (q : Text)
    → all_of q (with_values id how CommandLine vs rows) ≡ put (bytes_eq id q) vs (all_of q rows)
all_more id how vs [] q = go (bytes_eq id q)
  where
    go : (b : Bool) → option_map (λ (x : Row). x.values) (cond b (Some (record { id = id; values = vs; count = None; source = Some CommandLine; reading = how })) None) ≡ put b vs None
    go true = refl
    go false = refl
all_more id how vs (r ∷ rows) q = go (bytes_eq r.id id) refl (all_more id how vs rows q)
  where
    hit : (b : Bool) → option_map (λ (x : Row). x.values) (cond b (Some (record r { values = r.values ++ vs; source = Some (walk.stronger r.source CommandLine) })) (find (λ x. bytes_eq x.id q) rows))
        ≡ put b vs (option_map (λ (x : Row). x.values) (cond b (Some r) (find (λ x. bytes_eq x.id q) rows)))
    hit true = refl
    hit false = refl

    miss : (b d : Bool) → (b ≡ true → d ≡ true → ⊥) → all_of q (with_values id how CommandLine vs rows) ≡ put d vs (all_of q rows)
        → option_map (λ (x : Row). x.values) (cond b (Some r) (find (λ x. bytes_eq x.id q) (with_values id how CommandLine vs rows)))
        ≡ put d vs (option_map (λ (x : Row). x.values) (cond b (Some r) (find (λ x. bytes_eq x.id q) rows)))
    miss true true never h = absurd (never refl refl)
    miss true false never h = refl
    miss false d never h = h

    go : (b : Bool) → bytes_eq r.id id ≡ b → all_of q (with_values id how CommandLine vs rows) ≡ put (bytes_eq id q) vs (all_of q rows)
        → all_of q (cond b (walk.more_values CommandLine vs r ++ rows) (r ∷ with_values id how CommandLine vs rows)) ≡ put (bytes_eq id q) vs (all_of q (r ∷ rows))
    go true e h = subst (λ (k : Text). all_of q (walk.more_values CommandLine vs r ++ rows) ≡ put (bytes_eq k q) vs (all_of q (r ∷ rows))) (same_bytes r.id id e) (hit (bytes_eq r.id q))
    go false e h = miss (bytes_eq r.id q) (bytes_eq id q)
        (λ x y. true≢false (sym (subst (λ (k : Text). bytes_eq r.id k ≡ true) (sym (same_bytes id q y)) x) ∙ e)) h

-- ---- kinds

abbrev pub IsFault : Kinds → Type 0
IsFault [] = ⊥
IsFault (k ∷ ks) = Unit {0}

fault_first : (a b : Kinds) → IsFault a → IsFault (or_else a b)
fault_first [] b h = absurd h
fault_first (k ∷ ks) b h = tt

fault_then : (a b : Kinds) → a ≡ [] → IsFault b → IsFault (or_else a b)
fault_then a b e h = subst (λ k. IsFault (or_else k b)) (sym e) h

or_else_in : (a b d : Kinds) → or_else (or_else a b) d ≡ or_else a (or_else b d)
or_else_in [] b d = refl
or_else_in (k ∷ ks) b d = refl

or_else_nil : (a : Kinds) → or_else a [] ≡ a
or_else_nil [] = refl
or_else_nil (k ∷ ks) = refl

and_false : (b : Bool) → (b && false) ≡ false
and_false true = refl
and_false false = refl

-- ---- what the rows hold

pub record Holds (p : List Said) (rows : List Row) : Type 0 where
  pub values : (id : Text) → all_of id rows ≡ said_of id p
  pub explicit : Explicit rows

holds_more : (id : Text) (how : Reading) (vs : List Text) (p : List Said) (rows : List Row) → Holds p rows → Holds ((id, vs) ∷ p) (with_values id how CommandLine vs rows)
holds_more id how vs p rows h = record {
  values = λ q. all_more id how vs rows q ∙ ap (put (bytes_eq id q) vs) (h.values q);
  explicit = explicit_more id how vs rows h.explicit;
}

has_row_said : (id : Text) (p : List Said) (rows : List Row) → Holds p rows → has_row id rows ≡ is_said id p
has_row_said id p rows h = has_row_all id rows ∙ ap (λ o. is_some o) (h.values id)

abbrev UseAs : Bool → Rule → List Text → List Row → List Said → Type 0
UseAs true a vs rows q = (use_fault false a vs rows ≡ []) × Holds q (used a vs rows)
UseAs false a vs rows q = IsFault (use_fault false a vs rows)

-- a use of an option, by whether it was said before
module _ (name : Text) (vs : List Text) (p : List Said) (rows : List Row) (h : Holds p rows) (once : is_once p ≡ true) (other : bytes_eq name (codes "FILE") ≡ false) where
  use_set : (a : Rule) → a.id ≡ name → walk.action_of a ≡ Set → walk.values_or_missing a vs ≡ vs → values_fault a vs ≡ []
      → range_kinds (unwrap_or_range a.range).start_inclusive (walk.most_values a) (length vs) ≡ [] → UseAs (is_once ((name, vs) ∷ p)) a vs rows ((name, vs) ∷ p)
  use_set a id action given pass range = go (is_said name p) (has_row_said name p rows h)
    where
      fault : use_fault false a vs rows ≡ repeat_fault false name rows
      fault = ap (λ k. or_else k (action_fault (walk.action_of a) false a (walk.values_or_missing a vs) rows)) range
          ∙ ap₂ (λ x v. action_fault x false a v rows) action given
          ∙ ap₂ (λ i k. or_else (repeat_fault false i rows) k) id pass ∙ or_else_nil _

      go : (b : Bool) → has_row name rows ≡ b → UseAs ((bytes_eq name (codes "FILE") || not b) && is_once p) a vs rows ((name, vs) ∷ p)
      go true row =
          let is_fault : IsFault (repeat_fault false name rows) = subst (λ (x : Bool). IsFault (cond (x && true) (kind.ArgumentConflict ∷ []) [])) (sym row) tt in
          let bad : IsFault (use_fault false a vs rows) = subst IsFault (sym fault) is_fault in
          subst (λ (x : Bool). UseAs ((x || false) && is_once p) a vs rows ((name, vs) ∷ p)) (sym other) bad
      go false row =
          let none : repeat_fault false name rows ≡ [] = ap (λ (x : Bool). cond (x && true) (kind.ArgumentConflict ∷ []) []) row in
          let is_used : used a vs rows ≡ with_values name (walk.reading_by a) CommandLine vs rows =
          ap₂ (λ x v. walk.used_as x a.id (walk.reading_by a) v rows) action given
          ∙ ap (λ i. with_values i (walk.reading_by a) CommandLine vs (without i rows)) id
          ∙ ap (λ rs. with_values name (walk.reading_by a) CommandLine vs rs) (without_none name rows row) in
          let good : UseAs true a vs rows ((name, vs) ∷ p) = (fault ∙ none, subst (λ rs. Holds ((name, vs) ∷ p) rs) (sym is_used) (holds_more name (walk.reading_by a) vs p rows h)) in
          subst (λ (x : Bool). UseAs x a vs rows ((name, vs) ∷ p)) (sym (ap₂ (λ x y. (x || true) && y) other once)) good

abbrev pub stated : Text → Bool → Stated
stated name b = record { name = name; has_value = b }

use_value : (name v : Text) (p : List Said) (rows : List Row) → Holds p rows → is_once p ≡ true → bytes_eq name (codes "FILE") ≡ false
    → UseAs (is_once ((name, v ∷ []) ∷ p)) (done_rule (stated name true)) (v ∷ []) rows ((name, v ∷ []) ∷ p)
use_value name v p rows h once other = use_set name (v ∷ []) p rows h once other (done_rule (stated name true)) refl refl refl refl refl

use_flag : (name : Text) (p : List Said) (rows : List Row) → Holds p rows → is_once p ≡ true → bytes_eq name (codes "FILE") ≡ false
    → UseAs (is_once ((name, []) ∷ p)) (done_rule (stated name false)) [] rows ((name, []) ∷ p)
use_flag name p rows h once other = use_set name [] p rows h once other (done_rule (stated name false)) refl refl refl refl refl

use_file : (word : Text) (p : List Said) (rows : List Row) → Holds p rows → is_once p ≡ true → UseAs (is_once (file word ∷ p)) done_files (word ∷ []) rows (file word ∷ p)
use_file word p rows h once =
    let good : UseAs true done_files (word ∷ []) rows (file word ∷ p) = (refl, holds_more (codes "FILE") _ (word ∷ []) p rows h) in
    subst (λ (x : Bool). UseAs x done_files (word ∷ []) rows (file word ∷ p)) (sym once) good

-- ---- turns of the walk

abbrev pub shape_by : Table → Shape
shape_by t = record (new_shape (codes "xsk")) { rules = rules_by t; no_binary_name = true; disable_help_flag = true; disable_help_subcommand = true; is_built = true }

abbrev held : List Row → Option (Text × List Text) → Held
held rows pending = record { rows = rows; pending = pending; skip = 0 }

abbrev at : Waiting → Bool → Held → Walk
at waiting trailing h = record { held = h; waiting = waiting; position = 1; is_trailing = trailing; stopped = None }

abbrev free : Bool → Waiting
free true = positional
free false = idle

module _ (t : Table) where
  abbrev c : List Rule
  c = rules_by t

  abbrev turn : Walk → Text → Kinds
  turn w word = turn_fault (shape_by t) [] w word

  abbrev after : Walk → Text → Walk
  after w word = walked c [] w word

  end_turn : (b : Bool) (word : Text) (h : Held) → is_end word ≡ true → (turn (at (free b) false h) word ≡ []) × (after (at (free b) false h) word ≡ at (free b) true h)
  unfolding walked
  end_turn true word h e = (rw e refl, rw e refl)
  end_turn false word h e = (rw e refl, rw e refl)

  plain_turn : (b : Bool) (word : Text) (h : Held) → is_end word ≡ false → long_of word ≡ None → short_of word ≡ None
      → (turn (at (free b) false h) word ≡ positional_fault c false done_files h) × (after (at (free b) false h) word ≡ at positional false (walk.positional_held c done_files word h))
  unfolding walked
  plain_turn true word h e l s = (rw (e, l, s, find_index t) refl, rw (e, l, s, find_index t) refl)
  plain_turn false word h e l s = (rw (e, l, s, find_index t) refl, rw (e, l, s, find_index t) refl)

  ended_turn : (wait : Waiting) (word : Text) (h : Held)
      → (turn (at wait true h) word ≡ positional_fault c false done_files h) × (after (at wait true h) word ≡ at positional true (walk.positional_held c done_files word h))
  unfolding walked
  ended_turn wait word h = (rw (find_index t) refl, rw (find_index t) refl)

  unknown_turn : (wait : Waiting) (word name : Text) (v : Option Text) (h : Held) (o : Option Rule) → walk.subcommand_met [] wait word ≡ None → is_end word ≡ false → long_of word ≡ Some (name, v)
      → arg_by_long c name ≡ o → IsFault (long_fault c false o v h) → IsFault (turn (at wait false h) word)
  unknown_turn wait word name v h o sub e l found bad =
      let is : other_fault (shape_by t) (walk.subcommand_met [] wait word) word h ≡ long_fault c false o v h =
      ap (λ x. other_fault (shape_by t) x word h) sub ∙ ap (λ b. cond b [] (flag_word_fault c false (long_of word) word h)) e
      ∙ ap (λ x. flag_word_fault c false x word h) l ∙ ap (λ x. long_fault c false x v h) found in
      fault_first _ _ (subst IsFault (sym is) bad)

  short_turn : (wait : Waiting) (word flags : Text) (x y : ℕ) (rows : List Row) (pending : Option (Text × List Text)) → walk.subcommand_met [] wait word ≡ None → is_end word ≡ false → long_of word ≡ None
      → short_of word ≡ Some (x ∷ flags) → slice_get (chars (x ∷ flags)) 0 ≡ Some y → IsFault (turn (at wait false (held rows pending)) word)
  unfolding flags_fault
  short_turn wait word flags x y rows pending sub e l s first =
      let h : Held = held rows pending in
      let is : other_fault (shape_by t) (walk.subcommand_met [] wait word) word h ≡ kind.UnknownArgument ∷ [] =
      ap (λ x. other_fault (shape_by t) x word h) sub ∙ ap (λ b. cond b [] (flag_word_fault c false (long_of word) word h)) e
      ∙ ap (λ x. flag_word_fault c false x word h) l ∙ ap (λ o. option_map_or (λ flags. bundle_fault c false flags h) o []) s
      ∙ ap (λ o. bundle_step_fault c false o (x ∷ flags) 0 h (flags_fault c false (length flags))) first
      ∙ ap (λ o. short_fault c false o (drop (length (encode_utf8 y)) (x ∷ flags)) h (flags_fault c false (length flags) (drop (length (encode_utf8 y)) (x ∷ flags)) 0)) (find_short t y) in
      fault_first _ _ (subst IsFault (sym is) tt)

  -- what a long word does, by its rule
  long_turn : (b : Bool) (word name : Text) (v : Option Text) (h : Held) (o : Option Rule) → is_end word ≡ false → long_of word ≡ Some (name, v) → arg_by_long c name ≡ o
      → (turn (at (free b) false h) word ≡ or_else (long_fault c false o v h)
      (step_fault (shape_by t) 1 (walk.after_flag c (free b) word (walk.long_met c o v h).0 (walk.long_met c o v h).1).0 (walk.after_flag c (free b) word (walk.long_met c o v h).0 (walk.long_met c o v h).1).1))
      × (after (at (free b) false h) word ≡ walk.after_step c word (at (free b) false h)
      (walk.after_flag c (free b) word (walk.long_met c o v h).0 (walk.long_met c o v h).1).0 (walk.after_flag c (free b) word (walk.long_met c o v h).0 (walk.long_met c o v h).1).1)
  unfolding walked
  long_turn true word name v h o e l is = (rw (e, l, is) refl, rw (e, l, is) refl)
  long_turn false word name v h o e l is = (rw (e, l, is) refl, rw (e, l, is) refl)

  -- ---- the words that are left

  abbrev end_kinds : Held → Kinds
  end_kinds h = or_else (settle_fault c false h) (or_else (defaults_fault (settled c h).rows c) (check_fault (shape_by t) (walk.finished c h) false))

  abbrev last : Walk → List Text → Held
  last w words = (fold (walked c []) w words).held

  abbrev all_kinds : Walk → List Text → Kinds
  all_kinds w words = or_else (walk_fault (shape_by t) [] w words) (end_kinds (last w words))

  next_kinds : (w : Walk) (word : Text) (rest : List Text) → all_kinds w (word ∷ rest) ≡ or_else (turn w word) (all_kinds (after w word) rest)
  unfolding walk_fault
  next_kinds w word rest = or_else_in (turn w word) _ _

  abbrev pub Agrees : Kinds → List Row → Option (List Said) → Type 0
  Agrees ks rows None = IsFault ks
  Agrees ks rows (Some q) = (ks ≡ []) × Holds q rows

  abbrev Ends : Walk → List Text → Option (List Said) → Type 0
  Ends w words o = Agrees (all_kinds w words) (settled c (last w words)).rows o

  ends_next : (w now : Walk) (word : Text) (rest : List Text) (o : Option (List Said)) → turn w word ≡ [] → after w word ≡ now → Ends now rest o → Ends w (word ∷ rest) o
  ends_next w now word rest o none is h =
      let kinds : all_kinds w (word ∷ rest) ≡ all_kinds now rest = next_kinds w word rest ∙ ap (λ k. or_else k (all_kinds (after w word) rest)) none ∙ ap (λ x. all_kinds x rest) is in
      let rows : (settled c (last w (word ∷ rest))).rows ≡ (settled c (last now rest)).rows = ap (λ x. (settled c (last x rest)).rows) is in
      subst (λ k. Agrees k (settled c (last w (word ∷ rest))).rows o) (sym kinds) (subst (λ rs. Agrees (all_kinds now rest) rs o) (sym rows) h)

  ends_fault : (w : Walk) (word : Text) (rest : List Text) (o : Option (List Said)) → IsFault (turn w word) → o ≡ None → Ends w (word ∷ rest) o
  ends_fault w word rest o bad none =
      let is_fault : IsFault (all_kinds w (word ∷ rest)) = subst IsFault (sym (next_kinds w word rest)) (fault_first _ _ bad) in
      subst (λ x. Agrees (all_kinds w (word ∷ rest)) (settled c (last w (word ∷ rest))).rows x) (sym none) is_fault

-- ---- what a word looks like

data View (word : Text) : Type 0 where
  ends : is_end word ≡ true → is_dashed word ≡ true → View word
  plain : is_end word ≡ false → is_dashed word ≡ false → long_of word ≡ None → short_of word ≡ None → View word
  long : (p : Text × Option Text) → is_end word ≡ false → is_dashed word ≡ true → named word ≡ Some p → long_of word ≡ Some p → View word
  short : (x : ℕ) (flags : Text) → is_end word ≡ false → is_dashed word ≡ true → named word ≡ None → long_of word ≡ None → short_of word ≡ Some (x ∷ flags) → View word

one_long : (b : Bool) → option_and_then long_of_rest (option_and_then (strip_byte 45) (cond b (Some []) None)) ≡ None
one_long true = refl
one_long false = refl

one_short : (b : Bool) → option_and_then short_of_rest (cond b (Some []) None) ≡ None
one_short true = refl
one_short false = refl

view : (word : Text) → View word
view [] = plain refl refl refl refl
view (x ∷ []) = plain (and_false (x == 45)) refl (one_long (x == 45)) (one_short (x == 45))
view (x ∷ y ∷ r) = go (x == 45) (y == 45) r refl refl
  where
    go : (b d : Bool) (r : Text) → (x == 45) ≡ b → (y == 45) ≡ d → View (x ∷ y ∷ r)
    go false d r e f = plain (rw e refl) e (rw e refl) (rw e refl)
    go true true [] e f = ends (rw (e, f) refl) e
    go true true (z ∷ r) e f = long (name_and_value (z ∷ r)) (rw (e, f) refl) e (rw (e, f) refl) (rw (e, f) refl)
    go true false [] e f = short y [] (rw (e, f) refl) e refl (rw (e, f) refl) (rw (e, f) refl)
    go true false (z ∷ r) e f = short y (z ∷ r) (rw (e, f) refl) e (rw (e, f) refl) (rw (e, f) refl) (rw (e, f) refl)

-- ---- a second use of an option is never undone

and_right_false : (a b : Bool) → b ≡ false → (a && b) ≡ false
and_right_false true b e = e
and_right_false false b e = refl

kept_none : (p : List Said) → is_once p ≡ false → kept p ≡ None
kept_none p e = ap (λ b. cond (b && is_said (codes "FILE") p) (Some p) None) e

twice : (t : Table) (words : List Text) (p : List Said) (st : State) → is_once p ≡ false → whole (cut t p st words) ≡ None
twice t [] p ready e = kept_none p e
twice t [] p (awaits name) e = refl
twice t [] p ended e = kept_none p e
twice t (word ∷ rest) p ready e = go (twice t rest) (is_end word) (word_read t word)
  where
    go : ((q : List Said) (st : State) → is_once q ≡ false → whole (cut t q st rest) ≡ None) → (b : Bool) (r : Word)
        → whole (cond b (cut t p ended rest) (read_on r (λ st. cut t p st rest) (λ s. cut t (s ∷ p) ready rest))) ≡ None
    go more true r = more p ended e
    go more false breaks = refl
    go more false (opens name) = more p (awaits name) e
    go more false (says s) = more (s ∷ p) ready (and_right_false _ (is_once p) e)
twice t (word ∷ rest) p (awaits name) e = go (twice t rest) (is_dashed word)
  where
    go : ((q : List Said) (st : State) → is_once q ≡ false → whole (cut t q st rest) ≡ None) → (b : Bool) → whole (cond b None (cut t ((name, word ∷ []) ∷ p) ready rest)) ≡ None
    go more true = refl
    go more false = more ((name, word ∷ []) ∷ p) ready (and_right_false _ (is_once p) e)
twice t (word ∷ rest) p ended e = twice t rest (file word ∷ p) ended e

-- ---- the end of the words

no_default : (t : Table) (rows : List Row) → fold with_default rows (rules_by t) ≡ rows
no_default [] rows = go (has_row (codes "FILE") rows)
  where
    go : (b : Bool) → cond b rows rows ≡ rows
    go true = refl
    go false = refl
no_default (s ∷ t) rows = go (has_row s.name rows) (no_default t rows)
  where
    go : (b : Bool) → fold with_default rows (rules_by t) ≡ rows → fold with_default (cond b rows rows) (rules_by t) ≡ rows
    go true h = h
    go false h = h

no_default_fault : (t : Table) (rows : List Row) → defaults_fault rows (rules_by t) ≡ []
unfolding defaults_fault
no_default_fault [] rows = go (has_row (codes "FILE") rows)
  where
    go : (b : Bool) → or_else (cond (b || true) [] (given_default_fault done_files [])) [] ≡ []
    go true = refl
    go false = refl
no_default_fault (s ∷ t) rows = go (has_row s.name rows) (no_default_fault t rows)
  where
    go : (b : Bool) → defaults_fault rows (rules_by t) ≡ [] → or_else (cond (b || true) [] (given_default_fault (done_rule s) [])) (defaults_fault (cond b rows rows) (rules_by t)) ≡ []
    go true h = h
    go false h = h

required : (t : Table) (rows : List Row) → list_any (λ a. a.required && not (is_given a.id rows)) (rules_by t) ≡ not (is_given (codes "FILE") rows)
required [] rows = go (is_given (codes "FILE") rows)
  where
    go : (b : Bool) → (not b || false) ≡ not b
    go true = refl
    go false = refl
required (s ∷ t) rows = required t rows

abbrev missing : Bool → Kinds
missing given = cond (not given) (kind.MissingRequiredArgument ∷ []) []

check_is : (t : Table) (rows : List Row) → check_fault (shape_by t) rows false ≡ missing (is_given (codes "FILE") rows)
check_is t rows = ap (λ b. cond b (kind.MissingRequiredArgument ∷ []) []) (required t rows)

module _ (t : Table) where
  abbrev Settled : Bool → Held → List Said → Type 0
  Settled true h p = (settle_fault (rules_by t) false h ≡ []) × Holds p (settled (rules_by t) h).rows
  Settled false h p = IsFault (settle_fault (rules_by t) false h)

  settled_use : (b : Bool) (a : Rule) (id : Text) (vs : List Text) (rows : List Row) (q : List Said) → arg_by_id (rules_by t) id ≡ Some a → UseAs b a vs rows q → Settled b (held rows (Some (id, vs))) q
  settled_use true a id vs rows q e u = (
    ap (λ o. option_map_or (λ a. use_fault false a vs rows) o []) e ∙ u.0,
    subst (λ o. Holds q (walk.used_by_id o vs rows)) (sym e) u.1,
  )
  settled_use false a id vs rows q e u = subst (λ o. IsFault (option_map_or (λ a. use_fault false a vs rows) o [])) (sym e) u

  ends_here : (wait : Waiting) (trailing : Bool) (h : Held) (p : List Said) (b : Bool) → is_once p ≡ b → Settled b h p → Ends t (at wait trailing h) [] (kept p)
  unfolding walk_fault
  ends_here wait trailing h p false e s = subst (λ o. Agrees t (all_kinds t (at wait trailing h) []) (settled (rules_by t) h).rows o) (sym (kept_none p e)) (fault_first _ _ s)
  ends_here wait trailing h p true e s = go (is_said (codes "FILE") p) refl
    where
      given : is_given (codes "FILE") (walk.finished (rules_by t) h) ≡ is_said (codes "FILE") p
      given = ap (is_given (codes "FILE")) (no_default t (settled (rules_by t) h).rows) ∙ given_all (codes "FILE") (settled (rules_by t) h).rows s.1.explicit ∙ ap (λ o. is_some o) (s.1.values (codes "FILE"))

      kinds : end_kinds t h ≡ missing (is_said (codes "FILE") p)
      kinds = ap₂ (λ x y. or_else x (or_else y (check_fault (shape_by t) (walk.finished (rules_by t) h) false))) s.0 (no_default_fault t (settled (rules_by t) h).rows)
          ∙ check_is t (walk.finished (rules_by t) h) ∙ ap missing given

      go : (b : Bool) → is_said (codes "FILE") p ≡ b → Agrees t (all_kinds t (at wait trailing h) []) (settled (rules_by t) h).rows (kept p)
      go true f =
          let is : kept p ≡ Some p = ap₂ (λ x y. cond (x && y) (Some p) None) e f in
          subst (Agrees t (all_kinds t (at wait trailing h) []) (settled (rules_by t) h).rows) (sym is) (kinds ∙ ap missing f, s.1)
      go false f =
          let is : kept p ≡ None = ap₂ (λ x y. cond (x && y) (Some p) None) e f in
          subst (Agrees t (all_kinds t (at wait trailing h) []) (settled (rules_by t) h).rows) (sym is) (subst IsFault (sym (kinds ∙ ap missing f)) tt)

  -- a file
  file_turn : (w : Walk) (word : Text) (rest : List Text) (rows : List Row) (pending : Option (Text × List Text)) (p : List Said) (tr : Bool) (st : State) (b : Bool)
      → find (by_name (codes "FILE")) t ≡ None → is_once p ≡ b → Settled b (held rows pending) p
      → turn t w word ≡ positional_fault (rules_by t) false done_files (held rows pending)
      → after t w word ≡ at positional tr (walk.positional_held (rules_by t) done_files word (held rows pending))
      → ((now : List Row) (next : Option (Text × List Text)) → Settled (is_once (file word ∷ p)) (held now next) (file word ∷ p) → Ends t (at positional tr (held now next)) rest (whole (cut t (file word ∷ p) st rest)))
      → Ends t w (word ∷ rest) (whole (cut t (file word ∷ p) st rest))
  file_turn w word rest rows pending p tr st b no_file e s kinds is more = go b e s
    where
      fault : turn t w word ≡ settle_fault (rules_by t) false (held rows pending)
      fault = kinds ∙ ap (λ x. cond x [] (settle_fault (rules_by t) false (held rows pending))) (and_false (walk.is_pending done_files pending))

      gone : after t w word ≡ at positional tr (held (settled (rules_by t) (held rows pending)).rows (Some (codes "FILE", word ∷ [])))
      gone = is ∙ ap (λ x. at positional tr (walk.pushed (codes "FILE") word (cond x (held rows pending) (settled (rules_by t) (held rows pending))))) (and_false (walk.is_pending done_files pending))

      go : (b : Bool) → is_once p ≡ b → Settled b (held rows pending) p → Ends t w (word ∷ rest) (whole (cut t (file word ∷ p) st rest))
      go true e s = ends_next t w _ word rest _ (fault ∙ s.0) gone
          (more _ _ (settled_use _ done_files (codes "FILE") (word ∷ []) _ (file word ∷ p) (files_id t no_file) (use_file word p _ s.1 e)))
      go false e s = ends_fault t w word rest _ (subst IsFault (sym fault) s) (twice t rest (file word ∷ p) st e)

  -- an option or a flag that is whole
  says_turn : (w : Walk) (word : Text) (rest : List Text) (rows : List Row) (pending : Option (Text × List Text)) (p : List Said) (a : Rule) (name : Text) (vs : List Text)
      → turn t w word ≡ or_else (react_fault (rules_by t) false a vs (held rows pending)) []
      → after t w word ≡ at idle false (held (used a vs (settled (rules_by t) (held rows pending)).rows) None)
      → Settled (is_once p) (held rows pending) p
      → (Holds p (settled (rules_by t) (held rows pending)).rows → is_once p ≡ true → UseAs (is_once ((name, vs) ∷ p)) a vs (settled (rules_by t) (held rows pending)).rows ((name, vs) ∷ p))
      → ((now : List Row) (next : Option (Text × List Text)) → Settled (is_once ((name, vs) ∷ p)) (held now next) ((name, vs) ∷ p) → Ends t (at idle false (held now next)) rest (whole (cut t ((name, vs) ∷ p) ready rest)))
      → Ends t w (word ∷ rest) (whole (cut t ((name, vs) ∷ p) ready rest))
  says_turn w word rest rows pending p a name vs kinds is s uses more = go (is_once p) refl s
    where
      fault : turn t w word ≡ or_else (settle_fault (rules_by t) false (held rows pending)) (use_fault false a vs (settled (rules_by t) (held rows pending)).rows)
      fault = kinds ∙ or_else_nil (or_else (settle_fault (rules_by t) false (held rows pending)) (use_fault false a vs (settled (rules_by t) (held rows pending)).rows))

      used_so : (b : Bool) → is_once ((name, vs) ∷ p) ≡ b → (settle_fault (rules_by t) false (held rows pending) ≡ []) → UseAs b a vs (settled (rules_by t) (held rows pending)).rows ((name, vs) ∷ p)
          → Ends t w (word ∷ rest) (whole (cut t ((name, vs) ∷ p) ready rest))
      used_so true e none u =
          let good : Settled true (held (used a vs (settled (rules_by t) (held rows pending)).rows) None) ((name, vs) ∷ p) = (refl, u.1) in
          ends_next t w (at idle false (held (used a vs (settled (rules_by t) (held rows pending)).rows) None)) word rest (whole (cut t ((name, vs) ∷ p) ready rest))
          (fault ∙ ap (λ k. or_else k (use_fault false a vs (settled (rules_by t) (held rows pending)).rows)) none ∙ u.0) is
          (more _ None (subst (λ x. Settled x (held (used a vs (settled (rules_by t) (held rows pending)).rows) None) ((name, vs) ∷ p)) (sym e) good))
      used_so false e none u = ends_fault t w word rest (whole (cut t ((name, vs) ∷ p) ready rest))
          (subst IsFault (sym fault) (fault_then _ _ none u)) (twice t rest ((name, vs) ∷ p) ready e)

      go : (b : Bool) → is_once p ≡ b → Settled b (held rows pending) p → Ends t w (word ∷ rest) (whole (cut t ((name, vs) ∷ p) ready rest))
      go true e s = used_so (is_once ((name, vs) ∷ p)) refl s.0 (uses s.1 e)
      go false e s = ends_fault t w word rest (whole (cut t ((name, vs) ∷ p) ready rest)) (subst IsFault (sym fault) (fault_first _ _ s))
          (twice t rest ((name, vs) ∷ p) ready (and_right_false (bytes_eq name (codes "FILE") || not (is_said name p)) (is_once p) e))

  abbrev At : State → Waiting → List Row → Option (Text × List Text) → List Said → Type 0
  At ready wait rows pending p = (b : Bool) × (wait ≡ free b) × Settled (is_once p) (held rows pending) p
  At (awaits name) wait rows pending p = (wait ≡ walk.option name) × (pending ≡ Some (name, [])) × (arg_by_id (rules_by t) name ≡ Some (done_rule (stated name true)))
      × (bytes_eq name (codes "FILE") ≡ false) × Holds p rows × (is_once p ≡ true)
  At ended wait rows pending p = Settled (is_once p) (held rows pending) p

  abbrev trail : State → Bool
  trail ended = true
  trail _ = false

  abbrev More : List Text → Type 0
  More rest = (st : State) (wait : Waiting) (now : List Row) (next : Option (Text × List Text)) (q : List Said) → At st wait now next q
      → Ends t (at wait (trail st) (held now next)) rest (whole (cut t q st rest))

  -- an option that waits for its value
  opens_turn : (w : Walk) (word : Text) (rest : List Text) (rows : List Row) (pending : Option (Text × List Text)) (p : List Said) (name : Text)
      → turn t w word ≡ or_else (settle_fault (rules_by t) false (held rows pending)) []
      → after t w word ≡ at (walk.option name) false (held (settled (rules_by t) (held rows pending)).rows (Some (name, [])))
      → Settled (is_once p) (held rows pending) p → arg_by_id (rules_by t) name ≡ Some (done_rule (stated name true)) → bytes_eq name (codes "FILE") ≡ false → More rest
      → Ends t w (word ∷ rest) (whole (cut t p (awaits name) rest))
  opens_turn w word rest rows pending p name kinds is s rule other more = go (is_once p) refl s
    where
      fault : turn t w word ≡ settle_fault (rules_by t) false (held rows pending)
      fault = kinds ∙ or_else_nil (settle_fault (rules_by t) false (held rows pending))

      go : (b : Bool) → is_once p ≡ b → Settled b (held rows pending) p → Ends t w (word ∷ rest) (whole (cut t p (awaits name) rest))
      go true e s = ends_next t w (at (walk.option name) false (held (settled (rules_by t) (held rows pending)).rows (Some (name, [])))) word rest (whole (cut t p (awaits name) rest)) (fault ∙ s.0) is
          (more (awaits name) (walk.option name) _ (Some (name, [])) p (refl, refl, rule, other, s.1, e))
      go false e s = ends_fault t w word rest (whole (cut t p (awaits name) rest)) (subst IsFault (sym fault) s) (twice t rest p (awaits name) e)

  module _ (no_file : find (by_name (codes "FILE")) t ≡ None) where
    not_file : (name : Text) (s : Stated) → find (by_name name) t ≡ Some s → bytes_eq s.name (codes "FILE") ≡ false
    not_file name s e = go (bytes_eq s.name (codes "FILE")) refl
      where
        go : (b : Bool) → bytes_eq s.name (codes "FILE") ≡ b → bytes_eq s.name (codes "FILE") ≡ false
        go false h = h
        go true h =
            let same : name ≡ codes "FILE" = sym (same_bytes s.name name (found_name t name s e)) ∙ same_bytes s.name (codes "FILE") h in
            absurd (some≢none s (sym e ∙ ap (λ n. find (by_name n) t) same ∙ no_file))

    long_ready : (b : Bool) (word : Text) (rest : List Text) (rows : List Row) (pending : Option (Text × List Text)) (p : List Said) (name : Text) (v : Option Text)
        → is_end word ≡ false → is_dashed word ≡ true → named word ≡ Some (name, v) → long_of word ≡ Some (name, v) → Settled (is_once p) (held rows pending) p → More rest
        → Ends t (at (free b) false (held rows pending)) (word ∷ rest) (whole (cut t p ready (word ∷ rest)))
    long_ready b word rest rows pending p name v e d n l s more =
        subst (λ o. Ends t (at (free b) false (held rows pending)) (word ∷ rest) (whole o)) (sym own) (go (find (by_name name) t) v refl l)
      where
        own : cut t p ready (word ∷ rest) ≡ read_on (option_read (find (by_name name) t) v) (λ st. cut t p st rest) (λ s. cut t (s ∷ p) ready rest)
        own = ap₂ (λ x y. cond x (cut t p ended rest) (read_on (cond y (name_read t (named word)) (says (file word))) (λ st. cut t p st rest) (λ s. cut t (s ∷ p) ready rest))) e d
            ∙ ap (λ o. read_on (name_read t o) (λ st. cut t p st rest) (λ s. cut t (s ∷ p) ready rest)) n

        sub : (b : Bool) → walk.subcommand_met [] (free b) word ≡ None
        sub true = refl
        sub false = refl

        by : (has : Bool) (k : Text) (v : Option Text) → find (by_name name) t ≡ Some (stated k has) → long_of word ≡ Some (name, v)
            → Ends t (at (free b) false (held rows pending)) (word ∷ rest) (whole (read_on (option_read (Some (stated k has)) v) (λ st. cut t p st rest) (λ s. cut t (s ∷ p) ready rest)))
        by true k (Some x) f l =
            let turns = long_turn t b word name (Some x) (held rows pending) (Some (done_rule (stated k true))) e l (find_long t name ∙ ap (option_map done_rule) f) in
            says_turn (at (free b) false (held rows pending)) word rest rows pending p (done_rule (stated k true)) k (x ∷ []) turns.0 turns.1 s
            (λ h once. use_value k x p _ h once (not_file name (stated k true) f)) (λ now next h. more ready idle now next ((k, x ∷ []) ∷ p) (false, refl, h))
        by true k None f l =
            let turns = long_turn t b word name None (held rows pending) (Some (done_rule (stated k true))) e l (find_long t name ∙ ap (option_map done_rule) f) in
            opens_turn (at (free b) false (held rows pending)) word rest rows pending p k turns.0 turns.1 s (found_id t name (stated k true) f) (not_file name (stated k true) f) more
        by false k (Some x) f l = ends_fault t (at (free b) false (held rows pending)) word rest None
            (unknown_turn t (free b) word name (Some x) (held rows pending) (Some (done_rule (stated k false))) (sub b) e l (find_long t name ∙ ap (option_map done_rule) f) tt) refl
        by false k None f l =
            let turns = long_turn t b word name None (held rows pending) (Some (done_rule (stated k false))) e l (find_long t name ∙ ap (option_map done_rule) f) in
            says_turn (at (free b) false (held rows pending)) word rest rows pending p (done_rule (stated k false)) k [] turns.0 turns.1 s
            (λ h once. use_flag k p _ h once (not_file name (stated k false) f)) (λ now next h. more ready idle now next ((k, []) ∷ p) (false, refl, h))

        go : (o : Option Stated) (v : Option Text) → find (by_name name) t ≡ o → long_of word ≡ Some (name, v)
            → Ends t (at (free b) false (held rows pending)) (word ∷ rest) (whole (read_on (option_read o v) (λ st. cut t p st rest) (λ s. cut t (s ∷ p) ready rest)))
        go None v f l = ends_fault t (at (free b) false (held rows pending)) word rest None
            (unknown_turn t (free b) word name v (held rows pending) None (sub b) e l (find_long t name ∙ ap (option_map done_rule) f) tt) refl
        go (Some x) v f l = by x.has_value x.name v f l

    -- a word that stands where a value has to
    long_bad : (o : Option Rule) (v : Option Text) (h : Held) → IsFault (settle_fault (rules_by t) false h) → IsFault (long_fault (rules_by t) false o v h)
    long_bad None v h bad = tt
    long_bad (Some a) v h bad = go (walk.takes_values a) v
      where
        go : (b : Bool) (v : Option Text) → IsFault (cond b (option_fault (rules_by t) false a v h) (cond (is_some v) (kind.TooManyValues ∷ []) (react_fault (rules_by t) false a [] h)))
        go true None = bad
        go true (Some x) = fault_first _ _ bad
        go false None = fault_first _ _ bad
        go false (Some x) = tt

    -- an option with no value fails at the next file, or at the end
    bad_end : (wait : Waiting) (rows : List Row) (pending : Option (Text × List Text)) (words : List Text) → IsFault (settle_fault (rules_by t) false (held rows pending))
        → Ends t (at wait true (held rows pending)) words None
    unfolding walk_fault
    bad_end wait rows pending [] bad = fault_first _ _ bad
    bad_end wait rows pending (word ∷ rest) bad =
        let kinds : turn t (at wait true (held rows pending)) word ≡ settle_fault (rules_by t) false (held rows pending) =
        (ended_turn t wait word (held rows pending)).0 ∙ ap (λ x. cond x [] (settle_fault (rules_by t) false (held rows pending))) (and_false (walk.is_pending done_files pending)) in
        ends_fault t (at wait true (held rows pending)) word rest None (subst IsFault (sym kinds) bad) refl

    end_waiting : (name word : Text) (h : Held) → is_end word ≡ true → (turn t (at (walk.option name) false h) word ≡ []) × (after t (at (walk.option name) false h) word ≡ at (walk.option name) true h)
    unfolding walked
    end_waiting name word h e = (rw e refl, rw e refl)

    value_turn : (name word : Text) (rows : List Row) → is_end word ≡ false → long_of word ≡ None → short_of word ≡ None → arg_by_id (rules_by t) name ≡ Some (done_rule (stated name true))
        → (turn t (at (walk.option name) false (held rows (Some (name, [])))) word ≡ [])
        × (after t (at (walk.option name) false (held rows (Some (name, [])))) word ≡ at idle false (held rows (Some (name, word ∷ []))))
    unfolding walked
    value_turn name word rows e l s rule = (rw (e, l, s) refl, rw (e, l, s, rule, bytes_same name) refl)

    sub_free : (b : Bool) (word : Text) → walk.subcommand_met [] (free b) word ≡ None
    sub_free true word = refl
    sub_free false word = refl

    reads_ready : (b : Bool) (word : Text) (rest : List Text) (rows : List Row) (pending : Option (Text × List Text)) (p : List Said) → AreSpelled (word ∷ rest) → View word
        → Settled (is_once p) (held rows pending) p → More rest → Ends t (at (free b) false (held rows pending)) (word ∷ rest) (whole (cut t p ready (word ∷ rest)))
    reads_ready b word rest rows pending p sp (ends e d) s more =
        let own : cut t p ready (word ∷ rest) ≡ cut t p ended rest = ap (λ x. cond x (cut t p ended rest) (read_on (word_read t word) (λ st. cut t p st rest) (λ s. cut t (s ∷ p) ready rest))) e in
        let turns = end_turn t b word (held rows pending) e in
        subst (λ o. Ends t (at (free b) false (held rows pending)) (word ∷ rest) (whole o)) (sym own)
        (ends_next t (at (free b) false (held rows pending)) (at (free b) true (held rows pending)) word rest (whole (cut t p ended rest)) turns.0 turns.1 (more ended (free b) rows pending p s))
    reads_ready b word rest rows pending p sp (plain e d l sh) s more =
        let own : cut t p ready (word ∷ rest) ≡ cut t (file word ∷ p) ready rest =
        ap₂ (λ x y. cond x (cut t p ended rest) (read_on (cond y (name_read t (named word)) (says (file word))) (λ st. cut t p st rest) (λ s. cut t (s ∷ p) ready rest))) e d in
        let turns = plain_turn t b word (held rows pending) e l sh in
        subst (λ o. Ends t (at (free b) false (held rows pending)) (word ∷ rest) (whole o)) (sym own)
        (file_turn (at (free b) false (held rows pending)) word rest rows pending p false ready (is_once p) no_file refl s turns.0 turns.1
        (λ now next h. more ready positional now next (file word ∷ p) (true, refl, h)))
    reads_ready b word rest rows pending p sp (long q e d n l) s more = long_ready b word rest rows pending p q.0 q.1 e d n l s more
    reads_ready b word rest rows pending p sp (short x flags e d n l sh) s more =
        let own : cut t p ready (word ∷ rest) ≡ None =
        ap₂ (λ x y. cond x (cut t p ended rest) (read_on (cond y (name_read t (named word)) (says (file word))) (λ st. cut t p st rest) (λ s. cut t (s ∷ p) ready rest))) e d
        ∙ ap (λ o. read_on (name_read t o) (λ st. cut t p st rest) (λ s. cut t (s ∷ p) ready rest)) n in
        let first = sp.0 x flags sh in
        ends_fault t (at (free b) false (held rows pending)) word rest (whole (cut t p ready (word ∷ rest)))
        (short_turn t (free b) word flags x first.0 rows pending (sub_free b word) e l sh first.1) (ap whole own)

    reads_value : (name word : Text) (rest : List Text) (rows : List Row) (p : List Said) → AreSpelled (word ∷ rest) → View word
        → arg_by_id (rules_by t) name ≡ Some (done_rule (stated name true)) → bytes_eq name (codes "FILE") ≡ false → Holds p rows → is_once p ≡ true → More rest
        → Ends t (at (walk.option name) false (held rows (Some (name, [])))) (word ∷ rest) (whole (cut t p (awaits name) (word ∷ rest)))
    reads_value name word rest rows p sp seen rule other h once more = go seen
      where
        bad : IsFault (settle_fault (rules_by t) false (held rows (Some (name, []))))
        bad = subst (λ o. IsFault (option_map_or (λ a. use_fault false a [] rows) o [])) (sym rule) tt

        none : (is_dashed word ≡ true) → whole (cut t p (awaits name) (word ∷ rest)) ≡ None
        none d = ap (λ b. whole (cond b None (cut t ((name, word ∷ []) ∷ p) ready rest))) d

        go : View word → Ends t (at (walk.option name) false (held rows (Some (name, [])))) (word ∷ rest) (whole (cut t p (awaits name) (word ∷ rest)))
        go (ends e d) =
            let turns = end_waiting name word (held rows (Some (name, []))) e in
            subst (λ o. Ends t (at (walk.option name) false (held rows (Some (name, [])))) (word ∷ rest) o) (sym (none d))
            (ends_next t (at (walk.option name) false (held rows (Some (name, [])))) (at (walk.option name) true (held rows (Some (name, [])))) word rest None turns.0 turns.1
            (bad_end (walk.option name) rows (Some (name, [])) rest bad))
        go (plain e d l sh) =
            let own : cut t p (awaits name) (word ∷ rest) ≡ cut t ((name, word ∷ []) ∷ p) ready rest = ap (λ b. cond b None (cut t ((name, word ∷ []) ∷ p) ready rest)) d in
            let turns = value_turn name word rows e l sh rule in
            subst (λ o. Ends t (at (walk.option name) false (held rows (Some (name, [])))) (word ∷ rest) (whole o)) (sym own)
            (ends_next t (at (walk.option name) false (held rows (Some (name, [])))) (at idle false (held rows (Some (name, word ∷ [])))) word rest (whole (cut t ((name, word ∷ []) ∷ p) ready rest)) turns.0 turns.1
            (more ready idle rows (Some (name, word ∷ [])) ((name, word ∷ []) ∷ p)
            (false, refl, settled_use (is_once ((name, word ∷ []) ∷ p)) (done_rule (stated name true)) name (word ∷ []) rows ((name, word ∷ []) ∷ p) rule (use_value name word p rows h once other))))
        go (long q e d n l) = ends_fault t (at (walk.option name) false (held rows (Some (name, [])))) word rest (whole (cut t p (awaits name) (word ∷ rest)))
            (unknown_turn t (walk.option name) word q.0 q.1 (held rows (Some (name, []))) (arg_by_long (rules_by t) q.0) refl e l refl (long_bad (arg_by_long (rules_by t) q.0) q.1 (held rows (Some (name, []))) bad)) (none d)
        go (short x flags e d n l sh) =
            let first = sp.0 x flags sh in
            ends_fault t (at (walk.option name) false (held rows (Some (name, [])))) word rest (whole (cut t p (awaits name) (word ∷ rest)))
            (short_turn t (walk.option name) word flags x first.0 rows (Some (name, [])) refl e l sh first.1) (none d)

    reads : (words : List Text) → AreSpelled words → More words
    unfolding walk_fault
    reads [] sp ready wait rows pending p at_it = ends_here wait false (held rows pending) p (is_once p) refl at_it.2
    reads [] sp (awaits name) wait rows pending p at_it =
        let bad : IsFault (settle_fault (rules_by t) false (held rows pending)) =
        subst (λ n. IsFault (settle_fault (rules_by t) false (held rows n))) (sym at_it.1)
        (subst (λ o. IsFault (option_map_or (λ a. use_fault false a [] rows) o [])) (sym at_it.2) tt) in
        fault_first _ _ bad
    reads [] sp ended wait rows pending p at_it = ends_here wait true (held rows pending) p (is_once p) refl at_it
    reads (word ∷ rest) sp ready wait rows pending p at_it =
        subst (λ x. Ends t (at x false (held rows pending)) (word ∷ rest) (whole (cut t p ready (word ∷ rest)))) (sym at_it.1)
        (reads_ready at_it.0 word rest rows pending p sp (view word) at_it.2 (reads rest sp.1))
    reads (word ∷ rest) sp (awaits name) wait rows pending p at_it =
        subst (λ x. Ends t (at x false (held rows pending)) (word ∷ rest) (whole (cut t p (awaits name) (word ∷ rest)))) (sym at_it.0)
        (subst (λ n. Ends t (at (walk.option name) false (held rows n)) (word ∷ rest) (whole (cut t p (awaits name) (word ∷ rest)))) (sym at_it.1)
        (reads_value name word rest rows p sp (view word) at_it.2 at_it.3 at_it.4 at_it.5 (reads rest sp.1)))
    reads (word ∷ rest) sp ended wait rows pending p at_it =
        let turns = ended_turn t wait word (held rows pending) in
        file_turn (at wait true (held rows pending)) word rest rows pending p true ended (is_once p) no_file refl at_it turns.0 turns.1
        (λ now next h. reads rest sp.1 ended positional now next (file word ∷ p) h)

    abbrev pub app_by : App
    app_by = record { top = shape_by t; subs = [] }

    none_entered : (stop : Option (Text × List Text)) → is_some (entered app_by stop) ≡ false
    none_entered None = refl
    none_entered (Some p) = refl

    no_entered_fault : (stop : Option (Text × List Text)) → entered_fault app_by stop ≡ []
    no_entered_fault None = refl
    no_entered_fault (Some p) = refl

    -- what clap makes of the words, a fault or rows, is what the table says of them
    pub clap_reads : (words : List Text) → AreSpelled words → Agrees t (built_fault app_by nothing_held words) (walk.rows_after (rules_by t) [] words) (spoken t words)
    clap_reads words sp =
        let start : Ends t (at idle false (held [] None)) words (spoken t words) = reads words sp ready idle [] None [] (false, refl, (refl, record { values = λ id. refl; explicit = refl })) in
        let stop : Option (Text × List Text) = (walk.walk (rules_by t) [] nothing_held words).stopped in
        let kinds : built_fault app_by nothing_held words ≡ all_kinds t (at idle false (held [] None)) words =
        ap₂ (λ b k. level_fault (shape_by t) [] nothing_held words b k) (none_entered stop) (no_entered_fault stop) in
        let rows : walk.rows_after (rules_by t) [] words ≡ (settled (rules_by t) (last t (at idle false (held [] None)) words)).rows = no_default t _ in
        subst (λ k. Agrees t k (walk.rows_after (rules_by t) [] words) (spoken t words)) (sym kinds)
        (subst (λ rs. Agrees t (all_kinds t (at idle false (held [] None)) words) rs (spoken t words)) (sym rows) start)
