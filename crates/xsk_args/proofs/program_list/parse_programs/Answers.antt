use Rattle.std.proofs.Common.{◌∙◌, [], Some, ap, sym, refl, rules, arith}
use Rattle.std.proofs.lemmas.Str.Pattern.{split_parts}
use Rattle.xsk_args.specs.Program.{between_commas}
use Rattle.xsk_args.proofs.Listing.{cut_at, last_more, listed_first, listed_with, none_beyond, none_here, one_more, uncut}
use Rattle.xsk_args.proofs.program_list.parse_programs.Goals as goal

pub loop-first-init : goal.loop-first-init
loop-first-init c = (rw c.none-programs.ensures (listed_first c.args.text.now), search rules)

pub returns-in_err-parse_program : goal.returns-in_err-parse_program
returns-in_err-parse_program c =
    let l = c.loop-first in
    let cut = rw c.in-Some.is at (split_parts 44 l.rest.now c.split_once.result c.split_once.ensures.cases (omega arith)) in
    let turn = l.invariant.0 ∙ ap (λ text. listed_with l.programs (between_commas text)) cut.0 ∙ ap (listed_with l.programs) (cut_at c.in-Some.first.now c.in-Some.later.now cut.1) in
    c.from_residual.ensures ∙ sym (turn ∙ none_here l.programs c.in-Some.first.now (between_commas c.in-Some.later.now) (sym c.in_err-parse_program.ensures))

pub returns-in_err-push : goal.returns-in_err-push
returns-in_err-push c =
    let l = c.loop-first in
    let cut = rw c.in-Some.is at (split_parts 44 l.rest.now c.split_once.result c.split_once.ensures.cases (omega arith)) in
    let turn = l.invariant.0 ∙ ap (λ text. listed_with l.programs (between_commas text)) cut.0 ∙ ap (listed_with l.programs) (cut_at c.in-Some.first.now c.in-Some.later.now cut.1) in
    c.from_residual-in_err-push.ensures ∙ sym (turn ∙ none_beyond l.programs c.in-Some.first.now (between_commas c.in-Some.later.now) (c.in_err-push.ensures.refused refl))

pub loop-first-preserved : goal.loop-first-preserved
loop-first-preserved c =
    let l = c.loop-first in
    let cut = rw c.in-Some.is at (split_parts 44 l.rest.now c.split_once.result c.split_once.ensures.cases (omega arith)) in
    let turn = l.invariant.0 ∙ ap (λ text. listed_with l.programs (between_commas text)) cut.0 ∙ ap (listed_with l.programs) (cut_at c.in-Some.first.now c.in-Some.later.now cut.1) in (
      turn ∙ one_more l.programs c.in_ok-parse_program.field-0 c.in-Some.first.now (between_commas c.in-Some.later.now) (sym c.in_ok-parse_program.ensures)
          ∙ ap (λ programs. listed_with programs (between_commas c.in-Some.later.now)) (sym (c.in_ok-push.ensures.pushed refl).0),
      search rules,
    )

pub returns-in_err-parse_program-2 : goal.returns-in_err-parse_program-2
returns-in_err-parse_program-2 c =
    let l = c.loop-first in
    let none = rw c.in_default.is at (split_parts 44 l.rest.now c.split_once.result c.split_once.ensures.cases (omega arith)) in
    c.from_residual-in_err-parse_program-2.ensures
    ∙ sym (l.invariant.0 ∙ ap (listed_with l.programs) (uncut l.rest.now none) ∙ none_here l.programs l.rest.now [] (sym c.in_err-parse_program-2.ensures))

pub returns-in_err-push-2 : goal.returns-in_err-push-2
returns-in_err-push-2 c =
    let l = c.loop-first in
    let none = rw c.in_default.is at (split_parts 44 l.rest.now c.split_once.result c.split_once.ensures.cases (omega arith)) in
    c.from_residual-in_err-push-2.ensures
    ∙ sym (l.invariant.0 ∙ ap (listed_with l.programs) (uncut l.rest.now none) ∙ none_beyond l.programs l.rest.now [] (c.in_err-push-2.ensures.refused refl))

pub returns : goal.returns
returns c =
    let l = c.loop-first in
    let none = rw c.in_default.is at (split_parts 44 l.rest.now c.split_once.result c.split_once.ensures.cases (omega arith)) in
    ap Some (c.in_ok-push-2.ensures.pushed refl).0
    ∙ sym (l.invariant.0 ∙ ap (listed_with l.programs) (uncut l.rest.now none) ∙ last_more l.programs c.in_ok-parse_program-2.field-0 l.rest.now (sym c.in_ok-parse_program-2.ensures) (c.in_ok-push-2.ensures.pushed refl).1)
