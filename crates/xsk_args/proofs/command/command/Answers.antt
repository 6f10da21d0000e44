use Rattle.std.proofs.Common.{rules, ◌≡◌, ◌∙◌, ap, ap₂, fold, false, true, map, Some}
use Rattle.std.specs.List.{flat_map}
use Rattle.clap.specs.Built.{AddsArg}
use Rattle.clap.specs.Words.{App, Rule, app_of, rule_of, with_rule}
use Rattle.clap.specs.declared.builder.action.ArgAction.TheVariants.{Append}
use Rattle.clap.specs.declared.builder.arg.Arg.{Arg}
use Rattle.xsk_args.specs.Meaning.{stated}
use Rattle.xsk_args.specs.Rules.{command_app, files_rule, option_rule}
use Rattle.xsk_args.specs.declared.table.OptionRow.{OptionRow}
use Rattle.xsk_args.proofs.Building.{added, if_ok, no_options, with_more}
use Rattle.xsk_args.proofs.command.command.Goals as goal

pub returns : goal.returns
returns c =
    let f = λ (app : App) (row : OptionRow). with_rule app (option_rule (stated row)) in
    let local : c.required-files.result.global ≡ false =
    ap (λ (a : Arg). a.global) c.required-files.ensures ∙ ap (λ (a : Arg). a.global) c.action.ensures ∙ c.new.ensures.optional.1 in
    let rule : rule_of c.required-files.result ≡ files_rule =
    ap rule_of c.required-files.ensures ∙ ap (λ (a : Arg). rule_of (record a { required = true })) c.action.ensures
    ∙ ap (λ (r : Rule). record r { action = Some Append; required = true }) c.new.ensures.rule in
    let start : app_of c.disable_help_subcommand-command.result ≡ no_options = search rules in
    let app_is : app_of c.in_ok-command.command ≡ with_more no_options (map option_rule (map stated (flat_map (λ table. table.now) c.args.tables.now))) =
    c.in_ok-command.ensures ∙ ap (λ a. fold f a (flat_map (λ table. table.now) c.args.tables.now)) start ∙ added (flat_map (λ table. table.now) c.args.tables.now) no_options in
    if_ok (AddsArg c.in_ok-command.command c.required-files.result) (λ r. app_of r ≡ command_app (map stated (flat_map (λ table. table.now) c.args.tables.now)))
    (λ r adds. adds.shape local ∙ ap₂ with_rule app_is rule) c.arg.result c.arg.ensures
