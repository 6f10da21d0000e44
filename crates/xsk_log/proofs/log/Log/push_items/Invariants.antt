use Rattle.std.proofs.Common.{◌≡◌, ◌≤◌, ◌+◌, ◌*◌, ◌++◌, length}
use Rattle.xsk_log.specs.Rows.{items_from}
use Rattle.xsk_log.specs.Line.{items_text}
use Rattle.xsk_log.proofs.log.Log.push_items.Given as goal

abbrev pub invariant-loop-k : goal.invariant-loop-k
invariant-loop-k l = (l.line.bytes ≡ l.fn.line.bytes ++ items_text (items_from l.self l.fn.start l.k)) × (length l.line.bytes ≤ length l.fn.line.bytes + 43 * l.k)
