use Rattle.std.proofs.Common.{◌≡◌, true, false, rules, arith, slice_index, sym, ◌∙◌, length}
use Rattle.std.proofs.lemmas.List.{drop_all}
use Rattle.std.specs.Char.{is_ascii_digit}
use Rattle.xsk_lines.specs.Reading.{digits_from}
use Rattle.xsk_lines.proofs.Texts.{digits-next, digits-over, digits-stop, digits-zero}
use Rattle.xsk_lines.proofs.numbers.number.Goals as goal

pub returns-then-not-is_ascii_digit : goal.returns-then-not-is_ascii_digit
returns-then-not-is_ascii_digit c =
    let d : is_ascii_digit (slice_index c.args.text.now c.digits.i) ≡ false = search rules in
    c.number_end.ensures ∙ sym (c.digits.invariant ∙ digits-stop c.digits.value c.digits.i c.args.text.now c.digits.i c.digits-test.true d)

pub returns-then-is_leading_zero : goal.returns-then-is_leading_zero
returns-then-is_leading_zero c =
    let d : is_ascii_digit (slice_index c.args.text.now c.digits.i) ≡ true = sym c.if-not-is_ascii_digit.ensures.value in
    sym (c.digits.invariant ∙ digits-zero c.digits.value c.digits.i c.args.text.now c.digits.i c.digits-test.true d (sym c.if-is_leading_zero.ensures))

pub returns-in_default : goal.returns-in_default
returns-in_default c =
    let d : is_ascii_digit (slice_index c.args.text.now c.digits.i) ≡ true = sym c.if-not-is_ascii_digit.ensures.value in
    sym (c.digits.invariant ∙ digits-over c.digits.value c.digits.i c.args.text.now c.digits.i c.digits-test.true d (sym c.if-is_leading_zero.ensures) c.in_default.ensures.none)

pub digits-preserved : goal.digits-preserved
digits-preserved c =
    let d : is_ascii_digit (slice_index c.args.text.now c.digits.i) ≡ true = sym c.if-not-is_ascii_digit.ensures.value in
    let sum = c.in-Some.ensures.some in
    rw sum.0 (c.digits.invariant ∙ digits-next c.digits.value c.digits.i c.args.text.now c.digits.i c.digits-test.true d (sym c.if-is_leading_zero.ensures) (rw sum.0 at sum.1))

pub returns : goal.returns
unfolding digits_from
returns c =
    let all : c.digits.i ≡ length c.args.text.now = omega arith in
    let whole = rw (all, drop_all (length c.args.text.now) c.args.text.now (omega arith)) at c.digits.invariant in
    c.number_end-2.ensures ∙ sym (rw (drop_all (length c.args.text.now) c.args.text.now (omega arith)) whole)
