use Rattle.std.proofs.Common.{◌*◌, ◌≤◌}
use Rattle.xsk_driver.proofs.ahead.Ahead.read_items.Given as goal

abbrev pub invariant-loop-i : goal.invariant-loop-i
invariant-loop-i l = l.bytes ≤ l.i * 4096
