-- What an application that misbehaves does to the items that it submits on TX. They have numbers, from 0 on, in the order in
-- which it submits them, whatever their lanes. A change is a function of an item's number and the item. All of this is this
-- project's own.
use Rattle.std.specs.Prelude.{ℕ, ◌+◌, ◌-◌, ◌*◌, ◌/◌, ◌%◌, ◌==◌, min, max, if◌then◌else◌, Option, Some, None, List, [], ◌∷◌, ◌++◌, take}
use Rattle.std.specs.List.{slice_index_or, slice_set}
use Rattle.xsk_umem.specs.Limits.{most_frames}
use Rattle.xsk_umem.specs.Frame.{Frame}
use Rattle.xsk_umem.specs.Geometry.{Geometry, area_of}
use Rattle.xsk_umem.specs.declared.batch.Item.{Item}
use Rattle.xsk_turns.specs.Turns.{frame_in}
use Rattle.xsk_turns.specs.declared.manner.Manner.{Manner}
use Rattle.xsk_turns.specs.declared.manner.Change.{Change}
use Rattle.xsk_turns.specs.declared.manner.Change.TheVariants.{NoBytes, WholeChunk, UnknownOption, Outside, GoesOn}

-- an application that changes nothing
abbrev pub plain : Manner
plain = record { mangle = None; after = 0 }

-- the changes take turns
abbrev pub change_of : ℕ → Change
change_of turn = if turn == 0 then NoBytes else if turn == 1 then WholeChunk else if turn == 2 then UnknownOption else if turn == 3 then Outside else GoesOn

-- the change of the item of a number, where one of so many is changed; with none of 0 packets ever end
abbrev pub change_at : ℕ → ℕ → Option Change
change_at every number =
    if every == 0 then Some GoesOn
    else if number % every == every - 1 then Some (change_of (number / every % 5))
    else None

-- what a change makes of an item, and the frame that it takes from it; an address stays at its last value
abbrev pub made_of : Geometry → Change → Item → Item
made_of g NoBytes item = record { frame = item.frame; desc = record { addr = item.desc.addr; len = 0; options = item.desc.options } }
made_of g WholeChunk item = record { frame = item.frame; desc = record { addr = item.desc.addr; len = g.chunk; options = item.desc.options } }
made_of g UnknownOption item = record { frame = item.frame; desc = record { addr = item.desc.addr; len = item.desc.len; options = 2 } }
made_of g Outside item = record { frame = None; desc = record { addr = min (area_of g + item.desc.addr) 18446744073709551615; len = item.desc.len; options = item.desc.options } }
made_of g GoesOn item = record { frame = item.frame; desc = record { addr = item.desc.addr; len = item.desc.len; options = 1 } }

abbrev pub taken_of : Change → Item → List Frame
taken_of Outside item = frame_in item.frame
taken_of change item = []

abbrev pub made_by : Geometry → Option Change → Item → Item
made_by g None item = item
made_by g (Some change) item = made_of g change item

abbrev pub taken_by : Option Change → Item → List Frame
taken_by None item = []
taken_by (Some change) item = taken_of change item

-- items whose numbers begin with this one, where one of so many is changed, and the frames that are taken from them
abbrev pub mangled : Geometry → ℕ → ℕ → List Item → List Item
mangled g every number [] = []
mangled g every number (item ∷ items) = made_by g (change_at every number) item ∷ mangled g every (number + 1) items

abbrev pub frames_taken : ℕ → ℕ → List Item → List Frame
frames_taken every number [] = []
frames_taken every number (item ∷ items) = taken_by (change_at every number) item ++ frames_taken every (number + 1) items

-- ---- by the manner

-- the items as they are, or as they are changed
abbrev pub given_by : Geometry → Option ℕ → ℕ → List Item → List Item
given_by g None number items = items
given_by g (Some every) number items = mangled g every number items

-- The frames that sides have to give back, with those that are taken of items that were received on this side, as many as a UMEM
-- may have. Where the replies fit there are no more, and nothing is cut: by the law AppKeepsFrames all frames are kept.
abbrev pub back_by : Option ℕ → ℕ → List Item → ℕ → List (List Frame) → List (List Frame)
back_by None number items side back = back
back_by (Some every) number items side back = slice_set back side (take most_frames (slice_index_or back side [] ++ frames_taken every number items))

-- The number of the next item, behind so many. It is counted round, since after each 5 times so many items the changes are the
-- same again: by the law ChangesRepeat this is no matter.
abbrev pub round_of : ℕ → ℕ
round_of every = max 1 (5 * every)

abbrev pub number_by : Option ℕ → ℕ → ℕ → ℕ
number_by None number count = number
number_by (Some every) number count = (number + count) % round_of every
