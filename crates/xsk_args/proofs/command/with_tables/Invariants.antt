use Rattle.std.proofs.Common.{◌≡◌, fold, take}
use Rattle.std.specs.List.{flat_map}
use Rattle.clap.specs.Words.{app_of, with_rule}
use Rattle.xsk_args.specs.Meaning.{stated}
use Rattle.xsk_args.specs.Rules.{option_rule}
use Rattle.xsk_args.proofs.command.with_tables.Given as goal

abbrev pub invariant-loop-table : goal.invariant-loop-table
invariant-loop-table l = app_of l.command
    ≡ fold (λ app row. with_rule app (option_rule (stated row))) (app_of l.fn.command) (flat_map (λ table. table.now) (take l.table-index l.tables))
