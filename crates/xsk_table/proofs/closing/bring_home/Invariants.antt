use Rattle.std.proofs.Common.{◌≡◌, ◌≤◌, ◌<◌, ℕ, false, length, take, get_or, flat_map}
use Rattle.std.specs.Mem.Slots.{slots_items, slots_filled, slots_len}
use Rattle.std.specs.Mem.Slots.Ownership.{Filled}
use Rattle.xsk_table.specs.Opening.{list_of}
use Rattle.xsk_table.proofs.closing.bring_home.Given as goal

abbrev pub invariant-loop-number : goal.invariant-loop-number
invariant-loop-number l = record {
  items : l.home.items ≡ flat_map list_of (take l.number (slots_items l.fn.closed.slots));
  few : length l.home.items ≤ l.number;
  limit : l.home.limit ≡ l.fn.home.limit;
  same : (slots_items l.closed.slots ≡ slots_items l.fn.closed.slots) × (slots_len l.closed.slots ≡ slots_len l.fn.closed.slots);
  filled : Filled (slots_filled l.closed.slots) l.number (slots_len l.closed.slots);
  emptied : (k : ℕ) → k < l.number → get_or (slots_filled l.closed.slots) k false ≡ false;
}
