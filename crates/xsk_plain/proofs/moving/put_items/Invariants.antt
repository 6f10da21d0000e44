use Rattle.std.proofs.Common.{◌≡◌, ◌+◌, ◌≤◌, ◌++◌, length, map}
use Rattle.xsk_model.specs.Stored.{stored_item}
use Rattle.xsk_plain.specs.Kept.{AreKept}
use Rattle.xsk_log.specs.Log.{entries_of, calls_of, noted_in, notes_of, entry_room, byte_room}
use Rattle.xsk_plain.specs.Rooms.{items_bytes}
use Rattle.xsk_log.specs.Notes.{NotesGrow}
use Rattle.xsk_plain.specs.Stores.{stored_item_of}
use Rattle.xsk_plain.proofs.moving.put_items.Given as goal

-- what was done and what is left are together all that there was
abbrev pub invariant-loop : goal.invariant-loop
invariant-loop l = record {
  entries : entries_of l.log ≡ entries_of l.initial.log;
  noted : noted_in l.log ++ map (stored_item l.config.geometry l.config.sg) l.items ≡ map (stored_item l.config.geometry l.config.sg) l.initial.items;
  calls : calls_of l.log ≡ calls_of l.initial.log;
  done : length (noted_in l.log) ≡ l.counter;
  spare_entries : entry_room l.log ≡ entry_room l.initial.log;
  spare_bytes : byte_room l.log + items_bytes l.config l.initial.items ≡ byte_room l.initial.log + items_bytes l.config l.items;
  notes : NotesGrow (notes_of l.initial.log) (notes_of l.log);
  rest : length l.items + l.counter ≡ length l.initial.items;
  few : length l.initial.items ≤ 32;
  out : map stored_item_of l.store.out.items ++ l.items ≡ map stored_item_of l.initial.store.out.items ++ l.initial.items;
  room : l.store.room + length l.initial.items ≡ l.initial.store.room + length l.items;
  held : l.store.held ≡ l.initial.store.held;
  size : l.store.size ≡ l.initial.store.size;
  kept : AreKept l.config (notes_of l.initial.log) l.initial.store → AreKept l.config (notes_of l.log) l.store;
}
