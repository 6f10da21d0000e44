use Rattle.std.proofs.Common.{◌≡◌, ◌-◌, ◌≤◌, [], map, length, vec_capacity, Some}
use Rattle.std.specs.List.{range_with_len}
use Rattle.std.specs.Vec.{vec_items}
use Rattle.xsk_table.specs.View.{newcomer}
use Rattle.xsk_table.specs.Held.{new_pass}
use Rattle.xsk_table.proofs.Deals.{FirstFrom}
use Rattle.xsk_table.proofs.shared.deal.Given as goal

abbrev pub invariant-loop-who : goal.invariant-loop-who
invariant-loop-who l = record {
  table : l.seat.table_id ≡ l.board.table;
  seat : l.seat.me ≡ (newcomer l.board.setup (range_with_len l.who (l.callers - l.who)), []);
  passes : l.passes.items ≡ map (λ w. Some (new_pass (record { table = l.board.table; setup = l.board.setup }) w)) (range_with_len 0 l.who);
  room : l.callers ≤ vec_capacity l.passes;
  len : length l.passes.items ≡ l.who;
  ends_len : length l.ends.items ≡ l.callers;
  ends : FirstFrom l.board.setup.config l.board.setup.first l.who (map vec_items l.ends.items);
}
