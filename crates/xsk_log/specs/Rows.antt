-- The text of a row of the log, and its items.
use Rattle.std.specs.Prelude.{ℕ, List, ◌++◌, codes, take, drop, map}
use Rattle.xsk_umem.specs.declared.batch.Item.{Item}
use Rattle.xsk_log.specs.declared.log.Log.{Log}
use Rattle.xsk_log.specs.declared.log.Event.{Event}
use Rattle.xsk_log.specs.Log.{item_of, call_of, reply_of}
use Rattle.xsk_log.specs.Line.{call_text, reply_text}

-- so many items from a place on
abbrev pub items_from : Log → ℕ → ℕ → List Item
items_from log start count = take count (drop start (map (item_of log.bytes.items) log.pieces.items))

-- the call and the reply of a row with these items
abbrev pub event_text : Event → List Item → List ℕ
event_text event items = call_text (call_of event items) ++ codes " -> " ++ reply_text (reply_of event items)
