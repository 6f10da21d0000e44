use Rattle.std.proofs.Common.{◌≡◌, ◌++◌, drop}
use Rattle.xsk_why.specs.KeptWaits.{shown}
use Rattle.xsk_why.specs.Waiting.{lines_by}
use Rattle.xsk_why.proofs.waits.push_own.Given as goal

abbrev pub invariant-loop-wait : goal.invariant-loop-wait
invariant-loop-wait l = l.text.items ++ lines_by (shown (drop l.wait-index l.waits)) l.who ≡ l.initial.text.items ++ lines_by (shown l.waits) l.who
