use Rattle.std.proofs.Common.{rules, ◌≡◌, None, Some, [], ap, ◌∙◌, codes, length, map, arith}
use Rattle.std.specs.Prelude.{unwrap_or}
use Rattle.std.proofs.lemmas.List.{length-map}
use Rattle.xsk_args.specs.Meaning.{under}
use Rattle.xsk_socket.specs.Layout.{fault_of}
use Rattle.xsk_cli.specs.Words.{files_in, inputs_named, layout_by}
use Rattle.xsk_cli.proofs.Planning.{enough_files, files_named, some_files}
use Rattle.xsk_cli.proofs.words.Plan.of.Goals as goal

pub returns-in_default-clause-refused : goal.returns-in_default-clause-refused
returns-in_default-clause-refused c =
    let none : under c.args.args.now (codes "FILE") ≡ None = search rules in
    let accepted : fault_of (layout_by (under c.args.args.now)) ≡ None = search rules in
    absurd (some_files (under c.args.args.now) (enough_files (under c.args.args.now) c.requires) accepted none)

pub split_at-requires : goal.split_at-requires
split_at-requires c =
    let said = under c.args.args.now in
    let accepted : fault_of (layout_by said) ≡ None = search rules in
    let named : c.count_inputs-named.result ≡ inputs_named said = search rules in
    let told : said (codes "FILE") ≡ Some (map (λ file. file.now) c.in-Some.files.now) = search rules in
    let counted : length (files_in said) ≡ length c.in-Some.files.now = ap (λ o. length (unwrap_or o [])) told ∙ length-map c.in-Some.files.now (λ file. file.now) in
    omega (arith, files_named said (enough_files said c.requires) accepted, named, counted)
