use Rattle.std.proofs.Common.{ap, sym, ◌∙◌}
use Rattle.xsk_model.specs.MarkKinds.{word_of}
use Rattle.xsk_audit.specs.Reading.{text_view, word_at, mark_of_kind}
use Rattle.xsk_audit.proofs.Texts.{other-kind, this-kind, no-kind, no-view}
use Rattle.xsk_audit.proofs.words.mark.Goals as goal

pub returns-in-Some : goal.returns-in-Some
returns-in-Some c =
    let text = c.args.text.now in
    let is = c.as_bytes.ensures.value ∙ c.word.ensures.value ∙ ap word_of c.at-kind.ensures in
    let found = ap (λ w. word_at w text) (sym is) ∙ sym c.word-in-loop-row.ensures ∙ ap text_view c.in-Some.is in
    c.mark_of_kind.ensures ∙ ap (λ kind. mark_of_kind kind c.in-Some.rest.now) c.at-kind.ensures
    ∙ sym (c.loop-row.invariant ∙ this-kind c.loop-row.row text c.in-Some.rest.now c.loop-row-test.true found)

pub loop-row-preserved : goal.loop-row-preserved
loop-row-preserved c =
    let text = c.args.text.now in
    let is = c.as_bytes.ensures.value ∙ c.word.ensures.value ∙ ap word_of c.at-kind.ensures in
    let found = ap (λ w. word_at w text) (sym is) ∙ sym c.word-in-loop-row.ensures ∙ no-view c.word-in-loop-row.result c.in_default.not-Some in
    c.loop-row.invariant ∙ other-kind c.loop-row.row text c.loop-row-test.true found

pub returns : goal.returns
returns c = sym (c.loop-row.invariant ∙ no-kind c.loop-row.row c.args.text.now c.loop-row-test.false)
