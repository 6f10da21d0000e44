-- What holds of the parts of the object on one thread between its calls.
use Rattle.std.specs.Prelude.{◌≡◌, ◌≤◌, []}
use Rattle.xsk_plain.specs.Engine.{Engine}
use Rattle.xsk_plain.specs.Kept.{AllKept}
use Rattle.xsk_log.specs.Log.{entries_of, calls_of, noted_in, notes_of, entry_room, byte_room}
use Rattle.xsk_plain.specs.Stores.{parts_of}
use Rattle.xsk_plain.specs.declared.plain.Plain.TheInside.{Inside}

abbrev pub engine_of : Inside → Engine
engine_of p = record {
  config = p.object.config;
  rings = parts_of p.object.rings.items;
  marks = p.object.marks.items;
  log = entries_of p.log;
  calls = calls_of p.log;
  spare_entries = entry_room p.log;
  spare_bytes = byte_room p.log;
}

-- no entry is being made, the items in rings have their payloads in the log, and the queue in which the frames came
-- stands empty, with room for all of them
pub record IsSound (p : Inside) : Type 0 where
  pub noted : noted_in p.log ≡ []
  pub kept : AllKept p.object.config (notes_of p.log) p.object.rings.items
  pub home : p.home.items ≡ []
  pub limit : p.object.config.geometry.frames ≤ p.home.limit
