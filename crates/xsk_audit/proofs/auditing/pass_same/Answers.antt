use Rattle.xsk_log.specs.Left.{left_of}
use Rattle.xsk_audit.specs.Lines.{lines_of}
use Rattle.xsk_audit.proofs.Cuts.{no-lines}
use Rattle.xsk_audit.proofs.Misses.{none-first, round-falls}
use Rattle.xsk_audit.proofs.auditing.pass_same.Goals as goal

pub returns-then-is_empty-clause-missed : goal.returns-then-is_empty-clause-missed
returns-then-is_empty-clause-missed c =
    none-first c.args.lines.now.pairs (left_of c.args.lines.now) c.args.least (lines_of c.args.text.now) (no-lines c.args.text.now c.is_empty.result c.is_empty.ensures c.if-is_empty.true)

pub returns-then-round-least-clause-missed : goal.returns-then-round-least-clause-missed
returns-then-round-least-clause-missed c =
    let here = c.in_ok-round.ensures.some in
    round-falls c.args.lines.now.pairs (left_of c.args.lines.now) c.args.least c.in_ok-round.round (lines_of c.args.text.now) (lines_of c.first_line.result.1.now) c.first_line.result.0.now c.bytes.result.now
    c.first_line.ensures.line here.0 here.1 c.if-round-least.true
