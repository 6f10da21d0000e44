use Rattle.std.proofs.Common.{rules, ◌≡◌, List, ℕ, length, map, sym, ◌∙◌, subst}
use Rattle.std.proofs.lemmas.List.{length-map}
use Rattle.xsk_cli.specs.Judged.{AreShort}
use Rattle.xsk_cli.specs.Words.{most_of, ports_in}
use Rattle.xsk_cli.specs.Outcome.{AreTextsBy}
use Rattle.xsk_cli.specs.Steps.{FailsMaking, lists_in, written_in}
use Rattle.xsk_cli.proofs.Making.{answer_makes, making_fails, packets_made}
use Rattle.xsk_cli.proofs.Short.{short_lists}
use Rattle.xsk_cli.proofs.Writing.{texts_count}
use Rattle.xsk_cli.proofs.rounds.try_inputs.Goals as goal

pub run_work-requires-clause-short : goal.run_work-requires-clause-short
run_work-requires-clause-short c =
    short_lists c.args.work.now (map (λ bytes. bytes.items) c.args.inputs.items) c.in_ok-lists.lists.items c.in_ok-lists.ensures.taken

pub returns-in_err-ran-clause-failed : goal.returns-in_err-ran-clause-failed
returns-in_err-ran-clause-failed c =
    let work = c.args.work.now in
    let bytes : List (List ℕ) = map (λ bytes. bytes.items) c.args.inputs.items in
    let lists = lists_in c.in_ok-lists.lists.items in
    let failure = c.in_err-ran.field-0.0 in
    let within : AreShort (most_of work) bytes (length bytes) = subst (AreShort (most_of work) bytes) (sym (length-map c.args.inputs.items (λ bytes. bytes.items))) c.requires.short in
    let fails : FailsMaking work lists failure = c.in_err-ran.ensures.failed in
    answer_makes c.from_residual-in_err-ran.result failure work bytes (search rules) (making_fails work bytes lists failure within c.in_ok-lists.ensures.taken c.in_ok-lists.ensures.within fails)

pub returns-clause-made : goal.returns-clause-made
returns-clause-made c =
    let work = c.args.work.now in
    let bytes : List (List ℕ) = map (λ bytes. bytes.items) c.args.inputs.items in
    let lists = lists_in c.in_ok-lists.lists.items in
    let texts = written_in c.in_ok-ran.ran.left.lists c.in_ok-ran.ran.texts in
    let is : AreTextsBy work lists texts = c.in_ok-ran.ensures.made in (
      subst (AreShort (most_of work) bytes) (sym (length-map c.args.inputs.items (λ bytes. bytes.items))) c.requires.short,
      packets_made work bytes lists texts c.in_ok-lists.ensures.taken c.in_ok-lists.ensures.within is,
    )

pub returns-clause-count : goal.returns-clause-count
returns-clause-count c =
    let work = c.args.work.now in
    let lists = lists_in c.in_ok-lists.lists.items in
    let texts = written_in c.in_ok-ran.ran.left.lists c.in_ok-ran.ran.texts in
    let is : AreTextsBy work lists texts = c.in_ok-ran.ensures.made in
    let count : length lists ≡ ports_in work = length-map c.in_ok-lists.lists.items (λ list. list.packets) ∙ c.in_ok-lists.ensures.count in
    texts_count work lists texts is count
