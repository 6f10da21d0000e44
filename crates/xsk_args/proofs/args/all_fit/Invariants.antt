use Rattle.std.proofs.Common.{◌≡◌, drop}
use Rattle.std.specs.List.{flat_map, list_all}
use Rattle.clap.specs.Words.{all_of, found_of, rows_of}
use Rattle.xsk_args.specs.Meaning.{fits}
use Rattle.xsk_args.proofs.args.all_fit.Given as goal

abbrev pub invariant-loop-table : goal.invariant-loop-table
invariant-loop-table l = list_all (fits (λ name. all_of name (rows_of (found_of l.matches)))) (flat_map (λ table. table.now) (drop l.table-index l.tables))
    ≡ list_all (fits (λ name. all_of name (rows_of (found_of l.matches)))) (flat_map (λ table. table.now) l.tables)
