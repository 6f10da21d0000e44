use Rattle.std.proofs.Common.{◌∙◌, ◌+◌, ◌-◌, ℕ, sym, ap, take, arith}
use Rattle.xsk_audit.specs.Lines.{lines_of}
use Rattle.xsk_audit.specs.Naming.{last_from}
use Rattle.xsk_audit.specs.Reading.{Reads, read_view}
use Rattle.xsk_audit.proofs.Cuts.{no-lines}
use Rattle.xsk_audit.proofs.Named.{last-next, last-none, last-over}
use Rattle.xsk_audit.proofs.naming.last_naming.Goals as goal

pub returns-then-is_empty : goal.returns-then-is_empty
returns-then-is_empty c =
    let l = c.loop-before in
    sym (last-none c.args.geometry.now c.args.frame l.before (c.args.count - l.before) (lines_of l.rest.now) (read_view l.found) (no-lines l.rest.now c.is_empty.result c.is_empty.ensures c.if-is_empty.true))
    ∙ l.invariant

pub loop-before-preserved : goal.loop-before-preserved
loop-before-preserved c =
    let l = c.loop-before in
    let g = c.args.geometry.now in
    let later = lines_of c.first_line.result.1.now in
    ap (λ (found : Reads ℕ). last_from g c.args.frame (l.before + 1) (take (c.args.count - (l.before + 1)) later) found) c.newer-found.ensures
    ∙ sym (last-next g c.args.frame l.before c.args.count (lines_of l.rest.now) later c.first_line.result.0.now (read_view l.found) (omega (arith, c.loop-before-test.true)) c.first_line.ensures.line)
    ∙ l.invariant

pub returns : goal.returns
returns c =
    let l = c.loop-before in
    sym (last-over c.args.geometry.now c.args.frame l.before c.args.count (lines_of l.rest.now) (read_view l.found) (omega (arith, c.loop-before-test.false))) ∙ l.invariant
