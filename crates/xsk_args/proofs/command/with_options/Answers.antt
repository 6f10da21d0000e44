use Rattle.std.proofs.Common.{◌∙◌, ap₂, sym, ◌<◌, length, arith}
use Rattle.std.proofs.lemmas.List.Sums.{fold_more}
use Rattle.clap.specs.Words.{App, app_of, with_rule}
use Rattle.xsk_args.specs.Meaning.{stated}
use Rattle.xsk_args.specs.Rules.{option_rule}
use Rattle.xsk_args.specs.declared.table.OptionRow.{OptionRow}
use Rattle.xsk_args.proofs.command.with_options.Goals as goal

pub loop-row-preserved : goal.loop-row-preserved
loop-row-preserved c =
    let f = λ (app : App) (row : OptionRow). with_rule app (option_rule (stated row)) in
    let lt : c.loop-row.row-index < length c.args.table.now = omega arith in
    c.in_ok-command.ensures.shape c.option.ensures.local
    ∙ ap₂ with_rule c.loop-row.invariant c.option.ensures.rule
    ∙ sym (fold_more f (app_of c.args.command) c.args.table.now c.loop-row.row-index _ lt)
