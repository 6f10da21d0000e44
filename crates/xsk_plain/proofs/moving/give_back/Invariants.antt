use Rattle.std.proofs.Common.{◌≡◌, ◌+◌, ◌≤◌, ◌++◌, length, map}
use Rattle.xsk_plain.specs.Engine.{frames_in}
use Rattle.xsk_plain.specs.Stores.{stored_item_of}
use Rattle.xsk_plain.proofs.moving.give_back.Given as goal

abbrev pub invariant-loop : goal.invariant-loop
invariant-loop l = record {
  rest : length l.store.out.items + l.counter ≡ length l.initial.store.out.items;
  limit : l.home.limit ≡ l.initial.home.limit;
  frames : length l.initial.home.items + length (frames_in (map stored_item_of l.initial.store.out.items)) ≤ l.initial.home.limit
      → l.home.items ++ frames_in (map stored_item_of l.store.out.items) ≡ l.initial.home.items ++ frames_in (map stored_item_of l.initial.store.out.items);
}
