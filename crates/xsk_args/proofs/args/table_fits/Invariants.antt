use Rattle.std.proofs.Common.{◌≡◌, drop}
use Rattle.std.specs.List.{list_all}
use Rattle.clap.specs.Words.{all_of, found_of, rows_of}
use Rattle.xsk_args.specs.Meaning.{fits}
use Rattle.xsk_args.proofs.args.table_fits.Given as goal

abbrev pub invariant-loop-row : goal.invariant-loop-row
invariant-loop-row l = list_all (fits (λ name. all_of name (rows_of (found_of l.matches)))) (drop l.row-index l.table)
    ≡ list_all (fits (λ name. all_of name (rows_of (found_of l.matches)))) l.table
