use Rattle.std.proofs.Common.{◌≡◌, ◌+◌, ◌≤◌, ◌++◌, List, length, map}
use Rattle.xsk_log.specs.Left.{left_of}
use Rattle.xsk_log.specs.Log.{entries_of}
use Rattle.xsk_audit.specs.Lines.{lines_of}
use Rattle.xsk_audit.specs.Telling.{Timed, entries, journal_line, NeverFalls, last_of}
use Rattle.xsk_audit.proofs.auditing.compare.Given as goal

abbrev pub invariant-entries : goal.invariant-entries
invariant-entries l = record {
  pairs : l.lines.pairs ≡ l.pairs;
  timed : List Timed;
  log : entries_of l.log ≡ entries timed ++ left_of l.lines;
  lines : lines_of l.text ≡ map (journal_line l.pairs) timed ++ lines_of l.rest;
  rounds : NeverFalls 0 timed;
  last : last_of 0 timed ≡ l.least;
  count : l.same ≡ length timed;
  passed : l.same ≡ l._line;
  short : l.same + length l.rest ≤ length l.text;
}
