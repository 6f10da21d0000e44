-- What clap builds of the command, and what its parse tells by the table.
use Rattle.std.proofs.Common.{◌≡◌, ◌∙◌, ◌&&◌, Bool, true, false, not, refl, sym, ap, ap₂, subst, fold, map, List, [], ◌∷◌, ◌++◌, Option, Some, None, Result, Ok, Err, IfOk, append_assoc, append-nil, ⊎_elim, codes}
use Rattle.std.specs.List.{find, list_all, list_any}
use Rattle.std.specs.Prelude.{count_by, is_some}
use Rattle.clap.specs.Walk.{Rule, is_early_multiple, nothing_held, rows_after}
use Rattle.clap.specs.Faults.{built_fault, has_free_rules, is_free_app}
use Rattle.clap.specs.Simple.{App, built, filled_from, is_buildable, is_in_order, is_ready, is_ready_leaf, names_of, new_shape, on_top, with_rule}
use Rattle.clap.specs.Words.{HasKind, HasMatchesOf, IsAmong, all_of, fault_of, is_simple, is_simple_and_free, kind_of, matches_of}
use Rattle.clap.specs.declared.parser.matches.ArgMatches.{ArgMatches}
use Rattle.clap.specs.declared.error.Error.{Error}
use Rattle.clap.specs.declared.error.kind.ErrorKind.TheVariants as kind
use Rattle.xsk_args.specs.Words.{Said, Table, Text, spoken}
use Rattle.xsk_args.specs.Meaning.{stated}
use Rattle.xsk_args.specs.Rules.{AreSpelled, IsToldBy, command_app, files_rule, option_rule}
use Rattle.xsk_args.specs.declared.table.OptionRow.{OptionRow}
use Rattle.xsk_args.proofs.Cutting.{Agrees, IsFault, app_by, by_name, clap_reads, done_rule, rules_by, shape_by}

-- ---- adding rules

abbrev pub with_more : App → List Rule → App
with_more a rules = on_top (λ s. record s { rules = s.rules ++ rules }) a

pub added : (rows : List OptionRow) (a : App)
    → fold (λ a row. with_rule a (option_rule (stated row))) a rows ≡ with_more a (map option_rule (map stated rows))
added [] a = ap (λ (rs : List Rule). record a { top = record a.top { rules = rs } }) (sym (append-nil a.top.rules))
added (row ∷ rows) a = added rows (with_rule a (option_rule (stated row)))
    ∙ ap (λ (rs : List Rule). record a { top = record a.top { rules = rs } }) (append_assoc a.top.rules (option_rule (stated row) ∷ []) (map option_rule (map stated rows)))

abbrev pub no_options : App
no_options = record {
  top = record (new_shape (codes "xsk")) { no_binary_name = true; disable_help_flag = true; disable_help_subcommand = true };
  subs = [];
}

pub if_ok : {T E : Type 0} (P Q : T → Type 0) → ((x : T) → P x → Q x) → (r : Result T E) → IfOk r P → IfOk r Q
if_ok P Q f (Ok x) h = f x h
if_ok P Q f (Err e) h = tt

-- ---- building

filled_all : (t : Table) → filled_from 1 (map option_rule t ++ files_rule ∷ []) ≡ rules_by t
filled_all [] = refl
filled_all (s ∷ t) = go s.has_value (filled_all t)
  where
    go : (b : Bool) → filled_from 1 (map option_rule t ++ files_rule ∷ []) ≡ rules_by t
        → filled_from 1 (option_rule (record s { has_value = b }) ∷ (map option_rule t ++ files_rule ∷ [])) ≡ done_rule (record s { has_value = b }) ∷ rules_by t
    go true e = ap (λ rs. done_rule (record s { has_value = true }) ∷ rs) e
    go false e = ap (λ rs. done_rule (record s { has_value = false }) ∷ rs) e

abbrev with_rules : Table → List Rule → App
with_rules t rs = record { top = record (shape_by t) { rules = rs }; subs = [] }

built_is : (t : Table) (none : find (by_name (codes "FILE")) t ≡ None) → built (command_app t) ≡ app_by t none
built_is t none = ap (with_rules t) (filled_all t)

-- ---- the command is simple

told_simple : (t : Table) → list_all (λ (a : Rule). a.is_simple) (map option_rule t ++ files_rule ∷ []) ≡ true
told_simple [] = refl
told_simple (s ∷ t) = told_simple t

done_simple : (t : Table) → list_all (λ (a : Rule). a.is_simple) (rules_by t) ≡ true
done_simple [] = refl
done_simple (s ∷ t) = done_simple t

done_free : (t : Table) → list_all (λ (a : Rule). a.is_free) (rules_by t) ≡ true
done_free [] = refl
done_free (s ∷ t) = done_free t

one_file : (t : Table) → count_by (λ (a : Rule). is_some a.index) (rules_by t) ≡ 1
one_file [] = refl
one_file (s ∷ t) = one_file t

none_early : (t : Table) → list_any (is_early_multiple 1) (rules_by t) ≡ false
none_early [] = refl
none_early (s ∷ t) = none_early t

in_order : (t : Table) → is_in_order (rules_by t) ≡ true
in_order t = ap (λ n. not (list_any (is_early_multiple n) (rules_by t))) (one_file t) ∙ ap not (none_early t)

and_true : (a b : Bool) → a ≡ true → b ≡ true → (a && b) ≡ true
and_true a b e f = ap₂ (λ x y. x && y) e f

pub simple : (t : Table) → find (by_name (codes "FILE")) t ≡ None → is_simple (command_app t) ≡ true
simple t none =
    let ready : is_ready (shape_by t) ≡ true = and_true _ _ (done_simple t) (in_order t) in
    let whole : (is_ready (shape_by t) && true) ≡ true = and_true _ _ ready refl in
    and_true (is_buildable (command_app t)) _ (and_true _ _ (told_simple t) refl)
    (subst (λ (a : App). (is_ready a.top && list_all is_ready_leaf a.subs) ≡ true) (sym (built_is t none)) whole)

pub simple_and_free : (t : Table) → find (by_name (codes "FILE")) t ≡ None → is_simple_and_free (command_app t) ≡ true
simple_and_free t none =
    let whole : (has_free_rules (shape_by t) && true) ≡ true = and_true _ _ (done_free t) refl in
    and_true (is_simple (command_app t)) _ (simple t none)
    (subst (λ (a : App). is_free_app a ≡ true) (sym (built_is t none)) whole)

-- ---- what a parse tells

agrees : (t : Table) (none : find (by_name (codes "FILE")) t ≡ None) (words : List Text) → AreSpelled words
    → Agrees t (fault_of (command_app t) words) (matches_of (command_app t) words) (spoken t words)
agrees t none words sp =
    subst (λ (a : App). Agrees t (built_fault a nothing_held words) (rows_after a.top.rules (names_of a) words) (spoken t words))
    (sym (built_is t none)) (clap_reads t none words sp)

-- at an `Ok`
pub told_ok : (t : Table) → find (by_name (codes "FILE")) t ≡ None → (m : ArgMatches) (words : List Text) → AreSpelled words
    → fault_of (command_app t) words ≡ [] → HasMatchesOf (command_app t) words m → IsToldBy m (spoken t words)
told_ok t none m words sp fault h = go (spoken t words) refl (agrees t none words sp)
  where
    go : (o : Option (List Said)) → spoken t words ≡ o → Agrees t (fault_of (command_app t) words) (matches_of (command_app t) words) o → IsToldBy m (spoken t words)
    go None e bad = absurd (subst IsFault fault bad)
    go (Some said) e good = (said, e, λ name. ap (all_of name) (h (simple t none)).0 ∙ good.1.values name)

-- at an `Err` that isn't for want of memory
pub told_err : (t : Table) → find (by_name (codes "FILE")) t ≡ None → (e : Error) (words : List Text) → AreSpelled words
    → HasKind (fault_of (command_app t) words) e → (kind_of e ≡ kind.OutOfMemory → ⊥) → spoken t words ≡ None
told_err t none e words sp h other = go (spoken t words) refl (agrees t none words sp)
  where
    go : (o : Option (List Said)) → spoken t words ≡ o → Agrees t (fault_of (command_app t) words) (matches_of (command_app t) words) o → spoken t words ≡ None
    go None is bad = is
    go (Some said) is good = absurd (⊎_elim other (λ among. absurd (subst (IsAmong (kind_of e)) good.0 among)) h)
