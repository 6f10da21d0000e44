-- What readers of the code read, with the items that stand beside it.
use Rattle.std.specs.Prelude.{Bool, true, false, Option, None, Some, List}
use Rattle.xsk_umem.specs.declared.batch.Item.{Item}
use Rattle.xsk_model.specs.Asks.{joined_call}
use Rattle.xsk_audit.specs.Reading.{Said}
use Rattle.xsk_audit.specs.declared.reading.Reading.{Reading}

-- the items of a batch, where they could be read
abbrev pub items_view : Bool → List Item → Option (List Item)
items_view false items = None
items_view true items = Some items

abbrev pub said_with : Reading → List Item → Said
said_with reading items = record { round = reading.round; who = reading.who; call = joined_call reading.ask items }

abbrev pub line_view : Option Reading → List Item → Option Said
line_view None items = None
line_view (Some reading) items = Some (said_with reading items)
