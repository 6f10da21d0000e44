-- What the steps of the object change.
use Rattle.std.specs.Prelude.{◌≡◌, ℕ, ◌+◌, Some}
use Rattle.xsk_log.specs.Log.{entries_of, calls_of, entry_room, byte_room}
use Rattle.xsk_log.specs.declared.log.Log.{Log}
use Rattle.xsk_model.specs.declared.call.Ring.{Ring}
use Rattle.xsk_model.specs.declared.call.Call.{Call}
use Rattle.xsk_plain.specs.Steps.{parts_after}
use Rattle.xsk_plain.specs.Stores.{parts_of}
use Rattle.xsk_plain.specs.declared.object.Object.{Object}

-- a call on one ring changes this ring alone
pub record ChangesRing (old new : Object) (r : Ring) (call : Call) : Type 0 where
  pub config : new.config ≡ old.config
  pub marks : new.marks.items ≡ old.marks.items
  pub rings : parts_of new.rings.items ≡ parts_after old.config (parts_of old.rings.items) (Some r) call

-- a call on a mark leaves all rings
pub record KeepsRings (old new : Object) : Type 0 where
  pub config : new.config ≡ old.config
  pub rings : new.rings.items ≡ old.rings.items

-- items were noted in the log, so many payload bytes were kept, and all else stays
pub record NotesItems (old new : Log) (bytes : ℕ) : Type 0 where
  pub entries : entries_of new ≡ entries_of old
  pub calls : calls_of new ≡ calls_of old
  pub spare_entries : entry_room new ≡ entry_room old
  pub spare_bytes : byte_room new + bytes ≡ byte_room old
