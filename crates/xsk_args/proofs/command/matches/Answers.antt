use Rattle.std.proofs.Common.{◌≡◌, ◌∙◌, ap, subst, map, string_bytes, List, []}
use Rattle.std.specs.List.{flat_map}
use Rattle.clap.specs.Words.{App, HasKind, HasMatchesOf, app_of, fault_of, is_simple_and_free}
use Rattle.xsk_args.specs.Meaning.{stated}
use Rattle.xsk_args.specs.Rules.{command_app}
use Rattle.xsk_args.specs.Words.{Table, Text}
use Rattle.xsk_args.proofs.Building.{simple_and_free, told_err, told_ok}
use Rattle.xsk_args.proofs.command.matches.Goals as goal

pub returns-in-Ok-clause-told : goal.returns-in-Ok-clause-told
returns-in-Ok-clause-told c =
    let t : Table = map stated (flat_map (λ table. table.now) c.args.tables.now) in
    let app_is : app_of c.in_ok-command.command ≡ command_app t = c.in_ok-command.ensures in
    let words : List Text = map string_bytes c.args.words.now in
    let none : fault_of (command_app t) words ≡ [] = subst (λ (a : App). fault_of a words ≡ []) app_is (c.in-Ok.ensures.kinds (ap is_simple_and_free app_is ∙ simple_and_free t c.requires)) in
    told_ok t c.requires c.in-Ok.matches words c.note_texts.ensures none (subst (λ (a : App). HasMatchesOf a words c.in-Ok.matches) app_is c.in-Ok.ensures.matches)

pub returns : goal.returns
returns c =
    let t : Table = map stated (flat_map (λ table. table.now) c.args.tables.now) in
    let app_is : app_of c.in_ok-command.command ≡ command_app t = c.in_ok-command.ensures in
    let words : List Text = map string_bytes c.args.words.now in
    let kinds : HasKind (fault_of (command_app t) words) c.in-Err.error = subst (λ (a : App). HasKind (fault_of a words) c.in-Err.error) app_is (c.in-Err.ensures.kinds (ap is_simple_and_free app_is ∙ simple_and_free t c.requires)) in
    record { told = tt; usage = λ _. told_err t c.requires c.in-Err.error words c.note_texts.ensures kinds (λ e. c.in_default.not-OutOfMemory (c.kind.ensures ∙ e)) }
