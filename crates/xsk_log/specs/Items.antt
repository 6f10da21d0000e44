-- The items that an entry shows: those of a Submit, or those that a Peek gave.
use Rattle.std.specs.Prelude.{ℕ, List, [], ◌∷◌, ◌++◌}
use Rattle.xsk_umem.specs.Frame.{Frame}
use Rattle.xsk_umem.specs.declared.batch.Item.{Item}
use Rattle.xsk_model.specs.Entry.{Entry}
use Rattle.xsk_model.specs.Object.{submitted, taken}

abbrev pub items_of : Entry → List Item
items_of e = submitted e.call ++ taken e.reply

-- those of the first of these entries
abbrev pub next_items : List Entry → List Item
next_items [] = []
next_items (e ∷ es) = items_of e

abbrev pub number_in : Frame → ℕ
number_in frame = frame.number
