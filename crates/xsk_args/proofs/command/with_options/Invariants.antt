use Rattle.std.proofs.Common.{◌≡◌, fold, take}
use Rattle.clap.specs.Words.{app_of, with_rule}
use Rattle.xsk_args.specs.Meaning.{stated}
use Rattle.xsk_args.specs.Rules.{option_rule}
use Rattle.xsk_args.proofs.command.with_options.Given as goal

abbrev pub invariant-loop-row : goal.invariant-loop-row
invariant-loop-row l = app_of l.command ≡ fold (λ app row. with_rule app (option_rule (stated row))) (app_of l.fn.command) (take l.row-index l.table)
