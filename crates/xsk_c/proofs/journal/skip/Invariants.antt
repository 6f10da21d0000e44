use Rattle.std.proofs.Common.{◌≡◌, List, length, ◌++◌}
use Rattle.xsk_model.specs.Entry.{Entry}
use Rattle.xsk_log.specs.Left.{left_of}
use Rattle.xsk_c.proofs.journal.skip.Given as goal

abbrev pub invariant-loop-call : goal.invariant-loop-call
invariant-loop-call l = record {
  pairs : l.lines.pairs ≡ l.initial.lines.pairs;
  past : List Entry;
  left : left_of l.initial.lines ≡ past ++ left_of l.lines;
  passed : length past ≡ l._call;
}
