use Rattle.std.proofs.Common.{◌≡◌, List, length, ◌++◌}
use Rattle.xsk_model.specs.Entry.{Entry}
use Rattle.xsk_log.specs.Left.{left_of}
use Rattle.xsk_log.specs.Log.{entries_of}
use Rattle.xsk_sim.specs.Counts.{AreCounts}
use Rattle.xsk_sim.specs.Journal.{journal_of}
use Rattle.xsk_sim.proofs.journal.append_lines.Given as goal

abbrev pub invariant-loop-call : goal.invariant-loop-call
invariant-loop-call l = record {
  pairs : l.lines.pairs ≡ l.fn.lines.pairs;
  past : List Entry;
  log : entries_of l.log ≡ past ++ left_of l.lines;
  passed : length past ≡ l._call;
  counts : AreCounts l.counts.items past;
  text : l.text.items ≡ l.fn.text.items ++ journal_of l.fn.lines.pairs past;
}
