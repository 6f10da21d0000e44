use Rattle.std.proofs.Common.{◌≡◌, length, drop}
use Rattle.xsk_log.specs.Left.{left_of}
use Rattle.xsk_why.specs.KeptWaits.{shown}
use Rattle.xsk_why.specs.Waiting.{waits_from, waits_of}
use Rattle.xsk_why.proofs.waits.waits_in.Given as goal

abbrev pub invariant-loop-i : goal.invariant-loop-i
invariant-loop-i l = record {
  pairs : l.lines.pairs ≡ length l.plain.config.pairs;
  left : left_of l.lines ≡ drop l.i l.plain.log;
  waits : waits_from (length l.plain.config.pairs) (shown l.waits.items) (drop l.i l.plain.log) ≡ waits_of (length l.plain.config.pairs) l.plain.log;
}
