use Rattle.std.proofs.Common.{◌≡◌, ◌+◌, ◌*◌, ◌≤◌, List, length, take, vec_capacity}
use Rattle.std.specs.List.{sum}
use Rattle.xsk_umem.specs.Frame.{Frame}
use Rattle.xsk_model.specs.Rings.{places_of}
use Rattle.xsk_model.specs.Opening.{IsOpened}
use Rattle.xsk_table.specs.Layout.{widths_of}
use Rattle.xsk_table.specs.Opening.{AreFirst}
use Rattle.xsk_table.proofs.opening.lay_ends.Given as goal

abbrev pub invariant-loop-place : goal.invariant-loop-place
invariant-loop-place l = (l.base ≡ sum (take l.place (widths_of l.config))) × (l.base ≤ 4128 * l.place) × (length l.ends.items ≡ l.place) × (places_of l.config + 3 ≤ vec_capacity l.ends)
    × ((frames : List Frame) → IsOpened l.config frames → AreFirst (record { config = l.config; first = l.first; frames = frames }) l.who l.place l.ends.items)
