-- The entries that the log shows, and what its steps change. Its rows have the next of its pieces as their items, and a
-- piece names its payload as an extent of its bytes.
use Rattle.std.specs.Prelude.{◌≡◌, ℕ, ◌+◌, List, ◌∷◌, [], ◌++◌, length, take, drop, map}
use Rattle.std.specs.Option.{option_map}
use Rattle.xsk_umem.specs.Frame.{Frame}
use Rattle.xsk_umem.specs.declared.batch.Item.{Item}
use Rattle.xsk_model.specs.Entry.{Entry}
use Rattle.xsk_model.specs.declared.call.Call.{Call}
use Rattle.xsk_model.specs.declared.call.Call.TheVariants.{Reserve, Submit, Peek, Release, Swap, Look}
use Rattle.xsk_model.specs.declared.call.Reply.{Reply}
use Rattle.xsk_model.specs.declared.call.Reply.TheVariants.{Granted, Full, Submitted, Items, Empty, Released, Old}
use Rattle.xsk_log.specs.declared.log.Log.{Log}
use Rattle.xsk_log.specs.declared.log.Piece.{Piece}
use Rattle.xsk_log.specs.declared.log.Row.{Row}
use Rattle.xsk_log.specs.declared.log.Extent.{Extent}
use Rattle.xsk_log.specs.declared.log.Event.{Event}
use Rattle.xsk_log.specs.declared.log.Event.TheVariants.{Granted as WasGranted, Full as WasFull, Submitted as WasSubmitted, Items as HadItems, Empty as WasEmpty, Released as WasReleased, Swapped, Looked}
use Rattle.xsk_log.specs.Extents.{at_extent, IsWithin, Grows}
use Rattle.xsk_log.specs.Repeats.{KeepsValues}
use Rattle.xsk_log.specs.Notes.{Notes}

-- the frame of a piece, with the payload in place of its bytes
abbrev pub frame_at : List ℕ → Extent → ℕ → Frame
frame_at bytes extent number = record { number = number; bytes = at_extent bytes extent }

abbrev pub item_of : List ℕ → Piece → Item
item_of bytes piece = record { frame = option_map (frame_at bytes piece.payload) piece.frame; desc = piece.desc }

abbrev pub call_of : Event → List Item → Call
call_of (WasGranted r n) items = Reserve r n
call_of (WasFull r n free) items = Reserve r n
call_of (WasSubmitted r) items = Submit r items
call_of (HadItems r n) items = Peek r n
call_of (WasEmpty r n) items = Peek r n
call_of (WasReleased r n) items = Release r n
call_of (Swapped m value old) items = Swap m value
call_of (Looked m old) items = Look m

abbrev pub reply_of : Event → List Item → Reply
reply_of (WasGranted r n) items = Granted
reply_of (WasFull r n free) items = Full free
reply_of (WasSubmitted r) items = Submitted
reply_of (HadItems r n) items = Items items
reply_of (WasEmpty r n) items = Empty
reply_of (WasReleased r n) items = Released
reply_of (Swapped m value old) items = Old old
reply_of (Looked m old) items = Old old

abbrev pub entry_with : ℕ → Event → List Item → Entry
entry_with who event items = record { who = who; call = call_of event items; reply = reply_of event items }

-- the entries of rows, each with the next of the items
abbrev pub entries_from : List Row → List Item → List Entry
entries_from [] items = []
entries_from (row ∷ rows) items = entry_with row.who row.event (take row.items items) ∷ entries_from rows (drop row.items items)

-- the log as the list of its calls with their callers and replies, in order
abbrev pub entries_of : Log → List Entry
entries_of log = entries_from log.rows.items (map (item_of log.bytes.items) log.pieces.items)

-- the number of entries
abbrev pub calls_of : Log → ℕ
calls_of log = length log.rows.items

-- the items of the entry that is being made
abbrev pub noted_in : Log → List Item
noted_in log = map (item_of log.bytes.items) (drop log.begun log.pieces.items)

-- what the items of rings rest on
abbrev pub notes_of : Log → Notes
notes_of log = record { bytes = log.bytes.items; values = log.pieces.values }

-- the further entries for which there is room, each with as many items as a call may have
abbrev pub entry_room : Log → ℕ
entry_room log = log.spare_entries

-- the further bytes of payloads
abbrev pub byte_room : Log → ℕ
byte_room log = log.spare_bytes

-- the entries, the noted items and what the items of rings rest on stay
pub record KeepsLog (old new : Log) : Type 0 where
  pub entries : entries_of new ≡ entries_of old
  pub calls : calls_of new ≡ calls_of old
  pub noted : noted_in new ≡ noted_in old
  pub notes : notes_of new ≡ notes_of old

-- the entries and the noted items stay, and so do the bytes, behind which others may come; the payload stands among them
pub record KeepsPayload (old new : Log) (payload : List ℕ) (place : Extent) : Type 0 where
  pub entries : entries_of new ≡ entries_of old
  pub noted : noted_in new ≡ noted_in old
  pub calls : calls_of new ≡ calls_of old
  pub bytes : Grows (notes_of old).bytes (notes_of new).bytes
  pub values : (notes_of new).values ≡ (notes_of old).values
  pub within : IsWithin (notes_of new).bytes place
  pub shows : at_extent (notes_of new).bytes place ≡ payload
  pub spare_entries : entry_room new ≡ entry_room old
  pub spare_bytes : byte_room new + length payload ≡ byte_room old

-- one more noted item, and all else stays
pub record NotesPiece (old new : Log) (piece : Piece) : Type 0 where
  pub entries : entries_of new ≡ entries_of old
  pub noted : noted_in new ≡ noted_in old ++ item_of (notes_of old).bytes piece ∷ []
  pub calls : calls_of new ≡ calls_of old
  pub bytes : (notes_of new).bytes ≡ (notes_of old).bytes
  pub values : KeepsValues (notes_of old).values (notes_of new).values
  pub spare_entries : entry_room new ≡ entry_room old
  pub spare_bytes : byte_room new ≡ byte_room old

-- one more entry, with the items that were noted, and no item of a further one
pub record EndsEntry (old new : Log) (who : ℕ) (event : Event) : Type 0 where
  pub entries : entries_of new ≡ entries_of old ++ entry_with who event (noted_in old) ∷ []
  pub calls : calls_of new ≡ calls_of old + 1
  pub noted : noted_in new ≡ []
  pub notes : notes_of new ≡ notes_of old
  pub spare_entries : entry_room new + 1 ≡ entry_room old
  pub spare_bytes : byte_room new ≡ byte_room old
