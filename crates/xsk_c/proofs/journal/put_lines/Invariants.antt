use Rattle.std.proofs.Common.{◌≡◌, ◌≤◌, List, length, drop, ◌++◌}
use Rattle.xsk_model.specs.Entry.{Entry}
use Rattle.xsk_log.specs.Left.{left_of}
use Rattle.xsk_c.specs.Journal.{lines_of}
use Rattle.xsk_c.proofs.journal.put_lines.Given as goal

abbrev pub invariant-loop-call : goal.invariant-loop-call
invariant-loop-call l = record {
  pairs : l.lines.pairs ≡ l.initial.lines.pairs;
  told : List Entry;
  left : left_of l.initial.lines ≡ told ++ left_of l.lines;
  count : length told ≡ l.call;
  at : l.at ≡ length (lines_of l.initial.lines.pairs told);
  text : l.out ≡ lines_of l.initial.lines.pairs told ++ drop l.at l.initial.out;
  room : l.at ≤ length l.initial.out;
}
