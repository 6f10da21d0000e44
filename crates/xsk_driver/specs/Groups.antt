-- The frames of a driver, and the items of its packets that aren't at their end.
use Rattle.std.specs.Prelude.{◌≡◌, ◌≤◌, ℕ, List, length}
use Rattle.xsk_umem.specs.declared.batch.Item.{Item}
use Rattle.xsk_umem.specs.Frame.{Frame}
use Rattle.xsk_model.specs.Limits.{most_fragments}

-- the items may be those of a packet that isn't at its end
abbrev pub IsUnended : List Item → Type 0
IsUnended items = length items ≤ most_fragments

-- the frame has a whole chunk
abbrev pub IsWholeFrame : ℕ → Frame → Type 0
IsWholeFrame chunk frame = length frame.bytes ≡ chunk
