use Rattle.std.proofs.Common.{◌≡◌, ◌+◌, ◌∙◌, [], length, sym, ap, arith, true, false}
use Rattle.std.proofs.lemmas.Bool.{eqb-true}
use Rattle.std.proofs.lemmas.List.{nil_from_length}
use Rattle.xsk_audit.specs.Lines.{lines_of, begins_digit}
use Rattle.xsk_audit.proofs.Cuts.{here-begins, line-passed, none-left}
use Rattle.xsk_audit.proofs.cutting.pass_report.Goals as goal

pub returns-then-is_empty-clause-report : goal.returns-then-is_empty-clause-report
returns-then-is_empty-clause-report c =
    let l = c.loop-line in
    let none : l.rest.now ≡ [] = nil_from_length l.rest.now (eqb-true (length l.rest.now) 0 (sym c.is_empty.ensures ∙ c.if-is_empty.true)) in
    omega (arith, l.invariant.report, (none-left l.rest.now none).0)

pub returns-then-is_empty-clause-journal : goal.returns-then-is_empty-clause-journal
returns-then-is_empty-clause-journal c =
    let l = c.loop-line in
    let none : l.rest.now ≡ [] = nil_from_length l.rest.now (eqb-true (length l.rest.now) 0 (sym c.is_empty.ensures ∙ c.if-is_empty.true)) in
    sym (none-left l.rest.now none).1 ∙ l.invariant.journal

pub returns-then-begins_digit-clause-report : goal.returns-then-begins_digit-clause-report
returns-then-begins_digit-clause-report c =
    let l = c.loop-line in
    let digit : begins_digit l.rest.now ≡ true = sym c.begins_digit.ensures ∙ c.if-begins_digit.true in
    omega (arith, l.invariant.report, (here-begins l.rest.now digit).0)

pub returns-then-begins_digit-clause-journal : goal.returns-then-begins_digit-clause-journal
returns-then-begins_digit-clause-journal c =
    let l = c.loop-line in
    let digit : begins_digit l.rest.now ≡ true = sym c.begins_digit.ensures ∙ c.if-begins_digit.true in
    sym (here-begins l.rest.now digit).1 ∙ l.invariant.journal

pub loop-line-preserved : goal.loop-line-preserved
loop-line-preserved c =
    let l = c.loop-line in
    let other : begins_digit l.rest.now ≡ false = sym c.begins_digit.ensures ∙ c.if-begins_digit.false in
    let passed = line-passed l.rest.now c.first_line.result.0.now (lines_of c.first_line.result.1.now) other c.first_line.ensures.line in
    record {
      passed = ap (λ n. n + 1) l.invariant.passed;
      short = omega (arith, l.invariant.short, c.first_line.ensures.shorter);
      report = omega (arith, l.invariant.report, passed.0);
      journal = sym passed.1 ∙ l.invariant.journal;
    }

pub returns-clause-report : goal.returns-clause-report
returns-clause-report c =
    let l = c.loop-line in
    let none : l.rest.now ≡ [] = nil_from_length l.rest.now (omega (arith, l.invariant.short, c.loop-line-test.false)) in
    omega (arith, l.invariant.report, (none-left l.rest.now none).0)

pub returns-clause-journal : goal.returns-clause-journal
returns-clause-journal c =
    let l = c.loop-line in
    let none : l.rest.now ≡ [] = nil_from_length l.rest.now (omega (arith, l.invariant.short, c.loop-line-test.false)) in
    sym (none-left l.rest.now none).1 ∙ l.invariant.journal
