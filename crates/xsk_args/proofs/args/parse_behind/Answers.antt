use Rattle.std.proofs.Common.{rules, ◌≡◌, true, false, map, string_bytes, None}
use Rattle.std.specs.List.{flat_map, list_all}
use Rattle.clap.specs.Words.{all_of, found_of, rows_of}
use Rattle.xsk_args.specs.Meaning.{fits, stated}
use Rattle.xsk_args.specs.Words.{spoken}
use Rattle.xsk_args.proofs.Reading.{meant_none, meant_some, meant_unspoken}
use Rattle.xsk_args.proofs.args.parse_behind.Goals as goal

pub returns-in_err-matches-clause-usage : goal.returns-in_err-matches-clause-usage
returns-in_err-matches-clause-usage c is =
    let none : spoken (map stated (flat_map (λ table. table.now) c.args.tables.now)) (map string_bytes c.args.words.now) ≡ None = search (rules, is) in
    meant_unspoken (flat_map (λ table. table.now) c.args.tables.now) (map string_bytes c.args.words.now) none

pub returns-then-not-all_fit-clause-usage : goal.returns-then-not-all_fit-clause-usage
returns-then-not-all_fit-clause-usage c =
    let fit : list_all (fits (λ name. all_of name (rows_of (found_of c.in_ok-matches.matches)))) (flat_map (λ table. table.now) c.args.tables.now) ≡ false = search rules in
    λ _. meant_none c.in_ok-matches.matches (flat_map (λ table. table.now) c.args.tables.now) (map string_bytes c.args.words.now) c.in_ok-matches.ensures.told fit

pub returns-clause-told : goal.returns-clause-told
returns-clause-told c =
    let fit : list_all (fits (λ name. all_of name (rows_of (found_of c.in_ok-matches.matches)))) (flat_map (λ table. table.now) c.args.tables.now) ≡ true = search rules in
    meant_some c.in_ok-matches.matches (flat_map (λ table. table.now) c.args.tables.now) (map string_bytes c.args.words.now) c.in_ok-matches.ensures.told fit
