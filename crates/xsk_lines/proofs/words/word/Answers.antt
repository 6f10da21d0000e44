use Rattle.std.proofs.Common.{sym, ◌∙◌}
use Rattle.xsk_lines.proofs.Texts.{word-view, no-letters, no-text, same-letter, other-letter}
use Rattle.xsk_lines.proofs.words.word.Goals as goal

pub returns-in_default : goal.returns-in_default
returns-in_default c = no-letters c.args.word.now c.args.text.now c.in_default.ensures.cases

pub returns-in_err-first : goal.returns-in_err-first
returns-in_err-first c = rw c.from_residual.ensures (no-text c.in-Some.letter.now c.in-Some.letters.now c.args.word.now c.args.text.now c.in-Some.ensures.cases.0 c.in_err-first.ensures.cases)

pub returns-then-first-letter : goal.returns-then-first-letter
returns-then-first-letter c =
    word-view c.in-Some.letters.now c.in_ok-first.rest.now c.strip_prefix.result c.strip_prefix.ensures.cases
    ∙ sym (same-letter c.in-Some.letter.now c.in_ok-first.first.now c.in-Some.letters.now c.in_ok-first.rest.now c.args.word.now c.args.text.now c.in-Some.ensures.cases.0 c.in_ok-first.ensures.cases.0 c.if-first-letter.true)

pub returns-else-first-letter : goal.returns-else-first-letter
returns-else-first-letter c =
    sym (other-letter c.in-Some.letter.now c.in_ok-first.first.now c.in-Some.letters.now c.in_ok-first.rest.now c.args.word.now c.args.text.now c.in-Some.ensures.cases.0 c.in_ok-first.ensures.cases.0 c.if-first-letter.false)
