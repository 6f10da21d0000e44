use Rattle.std.proofs.Common.{◌≡◌, ◌≤◌, ℕ, get_or, None}
use Rattle.xsk_table.specs.Closing.{Joined}
use Rattle.xsk_table.proofs.closing.join.Given as goal

abbrev pub invariant-loop-who : goal.invariant-loop-who
invariant-loop-who l = record {
  table : l.seat.table_id ≡ l.board.table;
  joined : Joined l.fn.passes l.who l.seat.me.0;
  left : (w : ℕ) → l.who ≤ w → get_or l.passes w None ≡ get_or l.fn.passes w None;
}
