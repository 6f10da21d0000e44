use Rattle.std.proofs.Common.{◌≡◌, ◌+◌, ◌≤◌, length}
use Rattle.xsk_audit.specs.Lines.{lines_of, journal_of, report_of}
use Rattle.xsk_audit.proofs.cutting.pass_report.Given as goal

abbrev pub invariant-loop-line : goal.invariant-loop-line
invariant-loop-line l = record {
  passed : l.passed ≡ l._line;
  short : length l.rest + l._line ≤ length l.text;
  report : l.passed + length (report_of (lines_of l.rest)) ≡ length (report_of (lines_of l.text));
  journal : journal_of (lines_of l.rest) ≡ journal_of (lines_of l.text);
}
