use Rattle.std.proofs.Common.{◌≡◌, ◌+◌, ◌++◌, length, map}
use Rattle.xsk_plain.specs.Stores.{stored_item_of}
use Rattle.xsk_plain.proofs.moving.take_unnoted.Given as goal

-- what was taken and what is out are together all that was out
abbrev pub invariant-loop : goal.invariant-loop
invariant-loop l = record {
  count : length l.items ≡ l.counter;
  all : l.items ++ map stored_item_of l.store.out.items ≡ map stored_item_of l.initial.store.out.items;
  room : l.store.room ≡ l.initial.store.room;
  held : l.store.held ≡ l.initial.store.held + l.counter;
  size : l.store.size ≡ l.initial.store.size;
}
