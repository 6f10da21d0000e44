use Rattle.std.proofs.Common.{Option, ℕ, length, subst, arith}
use Rattle.std.proofs.lemmas.Bool.{eq-eqb, eqb-true}
use Rattle.memchr.specs.Find.{IsFirstByte, is_byte}
use Rattle.xsk_lines.proofs.Cuts.{line-here, line-whole}
use Rattle.xsk_lines.proofs.cutting.first_line.Goals as goal

pub returns-in-Some-clause-line : goal.returns-in-Some-clause-line
returns-in-Some-clause-line c =
    let text = c.args.text.now in
    let first = subst (λ (r : Option ℕ). IsFirstByte (is_byte 10) text r) c.in-Some.is c.memchr.ensures in
    line-here text c.in-Some.i first.0.high (λ k below feed. first.0.before k (omega arith) below (eq-eqb _ _ feed)) (eqb-true _ 10 first.1)

pub returns-in-None-clause-line : goal.returns-in-None-clause-line
returns-in-None-clause-line c =
    let text = c.args.text.now in
    let none = subst (λ (r : Option ℕ). IsFirstByte (is_byte 10) text r) c.in-None.is c.memchr.ensures in
    line-whole text (length text) c.requires (omega arith) (λ k below feed. none k (omega arith) below (eq-eqb _ _ feed))
