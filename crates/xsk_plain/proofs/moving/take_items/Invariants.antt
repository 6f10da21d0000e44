use Rattle.std.proofs.Common.{◌≡◌, ◌+◌, ◌++◌, length, map}
use Rattle.xsk_model.specs.Config.{Config}
use Rattle.xsk_model.specs.Stored.{stored_item}
use Rattle.xsk_plain.specs.Kept.{AreKept, AreHeld}
use Rattle.xsk_log.specs.Log.{entries_of, calls_of, noted_in, notes_of, entry_room, byte_room}
use Rattle.xsk_log.specs.Notes.{NotesGrow}
use Rattle.xsk_plain.specs.Stores.{stored_item_of}
use Rattle.xsk_plain.proofs.moving.take_items.Given as goal

-- what was taken and what is out are together all that was out
abbrev pub invariant-loop : goal.invariant-loop
invariant-loop l = record {
  entries : entries_of l.log ≡ entries_of l.initial.log;
  noted : (config : Config) → AreKept config (notes_of l.initial.log) l.initial.store → noted_in l.log ≡ map (stored_item config.geometry config.sg) l.items;
  calls : calls_of l.log ≡ calls_of l.initial.log;
  done : length (noted_in l.log) ≡ l.counter;
  spare_entries : entry_room l.log ≡ entry_room l.initial.log;
  spare_bytes : byte_room l.log ≡ byte_room l.initial.log;
  notes : NotesGrow (notes_of l.initial.log) (notes_of l.log);
  count : length l.items ≡ l.counter;
  all : l.items ++ map stored_item_of l.store.out.items ≡ map stored_item_of l.initial.store.out.items;
  room : l.store.room ≡ l.initial.store.room;
  held : l.store.held ≡ l.initial.store.held + l.counter;
  size : l.store.size ≡ l.initial.store.size;
  holds : AreHeld (notes_of l.log) l.store;
  kept : (config : Config) → AreKept config (notes_of l.initial.log) l.initial.store → AreKept config (notes_of l.log) l.store;
}
