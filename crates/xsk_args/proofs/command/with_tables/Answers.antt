use Rattle.std.proofs.Common.{◌<◌, length, arith}
use Rattle.clap.specs.Words.{app_of, with_rule}
use Rattle.xsk_args.specs.Meaning.{stated}
use Rattle.xsk_args.specs.Rules.{option_rule}
use Rattle.xsk_args.proofs.Tables.{table_next}
use Rattle.xsk_args.proofs.command.with_tables.Goals as goal

pub loop-table-preserved : goal.loop-table-preserved
loop-table-preserved c =
    let lt : c.loop-table.table-index < length c.args.tables.now = omega arith in
    table_next (λ table. table.now) (λ app row. with_rule app (option_rule (stated row))) (app_of c.args.command) _ _ c.args.tables.now c.loop-table.table-index _ lt c.loop-table.invariant c.in_ok-command.ensures
