use Rattle.std.proofs.Common.{◌≡◌, ◌-◌, ◌≤◌, [], map, length, vec_capacity}
use Rattle.std.specs.List.{range_with_len}
use Rattle.xsk_lock.specs.declared.view.Known.TheVariants.{Sees}
use Rattle.xsk_lock.specs.Held.{new_hand}
use Rattle.xsk_lock.proofs.Deals.{left}
use Rattle.xsk_lock.proofs.lock.deal.Given as goal

abbrev pub invariant-loop-first : goal.invariant-loop-first
invariant-loop-first g l = record {
  table : l.seat.table_id ≡ l.table.table_id;
  seat : l.seat.me ≡ (Sees (left (g.T.Named.name l.table.key.kept.value) l.hands (range_with_len l.first (l.hands - l.first))), []);
  row : l.row.items ≡ map (new_hand (record { table = l.table.table_id; name = g.T.Named.name l.table.key.kept.value; hands = l.hands })) (range_with_len 0 l.first);
  room : l.hands ≤ vec_capacity l.row;
  len : length l.row.items ≡ l.first;
}
