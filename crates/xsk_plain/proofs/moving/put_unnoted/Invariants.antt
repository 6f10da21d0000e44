use Rattle.std.proofs.Common.{◌≡◌, ◌+◌, ◌++◌, length, map}
use Rattle.xsk_plain.specs.Stores.{stored_item_of}
use Rattle.xsk_plain.proofs.moving.put_unnoted.Given as goal

-- what was done and what is left are together all that there was
abbrev pub invariant-loop : goal.invariant-loop
invariant-loop l = record {
  rest : length l.items + l.counter ≡ length l.initial.items;
  out : map stored_item_of l.store.out.items ++ l.items ≡ map stored_item_of l.initial.store.out.items ++ l.initial.items;
  room : l.store.room + length l.initial.items ≡ l.initial.store.room + length l.items;
  held : l.store.held ≡ l.initial.store.held;
  size : l.store.size ≡ l.initial.store.size;
}
