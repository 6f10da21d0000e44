-- Sums over calls and their replies: how many change the object, how many items are put into rings and taken from them, and
-- how many steps of their way the frames of these items have left. All of this is this project's own.
use Rattle.std.specs.Prelude.{ℕ, zero, suc, ◌+◌, ◌*◌, ◌==◌, Bool, false, ◌&&◌, if◌then◌else◌, Option, None, Some, List, length, fold}
use Rattle.xsk_model.specs.Marks.{is_mark}
use Rattle.xsk_model.specs.Object.{submitted, taken}
use Rattle.xsk_model.specs.Entry.{Told}
use Rattle.xsk_model.specs.OtherWords.{changes}
use Rattle.xsk_model.specs.declared.call.Ring.{Ring}
use Rattle.xsk_model.specs.declared.call.Ring.TheVariants.{Fill, Comp, Rx, Tx}
use Rattle.xsk_model.specs.declared.call.Mark.TheVariants.{Kick, Cell, Closing, Acked}
use Rattle.xsk_model.specs.declared.call.Call.{Call}
use Rattle.xsk_model.specs.declared.call.Call.TheVariants.{Reserve, Submit, Peek, Release, Swap, Look}
use Rattle.xsk_model.specs.declared.call.Reply.{Reply}
use Rattle.xsk_model.specs.declared.call.Reply.TheVariants.{Old}

-- a number for each of the first so many, summed up
abbrev pub sum_below : ℕ → (ℕ → ℕ) → ℕ
sum_below zero f = 0
sum_below (suc n) f = sum_below n f + f n

-- whether a call changed the object, and whether it is a Swap, as numbers
abbrev pub changed : Told → ℕ
changed t = if changes t.call t.reply then 1 else 0

abbrev pub swap_count : Call → ℕ
swap_count (Swap m value) = 1
swap_count call = 0

abbrev pub swapped : Told → ℕ
swapped t = swap_count t.call

-- a number of items, where the call is one on a ring
abbrev pub on_ring : Call → ℕ → ℕ
on_ring (Swap m value) count = 0
on_ring (Look m) count = 0
on_ring call count = count

-- the items that a call puts into a ring, and those that it takes from one
abbrev pub put : Told → ℕ
put t = length (submitted t.call)

abbrev pub took : Told → ℕ
took t = on_ring t.call (length (taken t.reply))

-- The rings that an item and its frame still come to: from RX they go over TX and COMPLETION to FILL. On RX it is one more, since
-- an application may take the frame from an item, and then the item goes to TX and the frame to FILL.
abbrev pub steps_left : Ring → ℕ
steps_left (Fill d) = 0
steps_left (Comp d) = 1
steps_left (Rx s) = 4
steps_left (Tx s) = 2

-- a number of items on the ring of a call, each counted with the steps that it has left there
abbrev pub steps_on : Call → ℕ → ℕ
steps_on (Reserve r n) count = count * steps_left r
steps_on (Submit r items) count = count * steps_left r
steps_on (Peek r n) count = count * steps_left r
steps_on (Release r n) count = count * steps_left r
steps_on (Swap m value) count = 0
steps_on (Look m) count = 0

abbrev pub steps_put : Told → ℕ
steps_put t = steps_on t.call (length (submitted t.call))

abbrev pub steps_taken : Told → ℕ
steps_taken t = steps_on t.call (length (taken t.reply))

-- ---- kicks

-- the number that a mark had
abbrev pub old_of : Reply → ℕ
old_of (Old number) = number
old_of reply = 0

-- whether a call looks at the kick of a pair
abbrev pub looks_at_kick : ℕ → Call → Bool
looks_at_kick d (Look m) = is_mark (Kick d) m
looks_at_kick d call = false

-- whether it saw the kick set; and whether the last of a caller's calls did
abbrev pub saw_kick : ℕ → Told → Bool
saw_kick d t = looks_at_kick d t.call && (old_of t.reply == 1)

abbrev pub saw_last : ℕ → List Told → Bool
saw_last d l = fold (λ before t. saw_kick d t) false l

-- whether a call sets the kick of a pair to this number
abbrev pub swaps_kick : ℕ → ℕ → Call → Bool
swaps_kick d number (Swap m value) = is_mark (Kick d) m && (value == number)
swaps_kick d number call = false

abbrev pub kick_swaps : ℕ → ℕ → Told → ℕ
kick_swaps d number t = if swaps_kick d number t.call then 1 else 0

-- ---- closings

-- how many there are of something that may be there
abbrev pub number_of : {X : Type 0} → Option X → ℕ
number_of None = 0
number_of (Some x) = 1

-- whether a call swaps a cell, closes a socket, or acknowledges that, as numbers
abbrev pub cell_count : Call → ℕ
cell_count (Swap (Cell port index) value) = 1
cell_count call = 0

abbrev pub closing_count : Call → ℕ
closing_count (Swap (Closing s) value) = 1
closing_count call = 0

abbrev pub acked_count : Call → ℕ
acked_count (Swap (Acked s) value) = 1
acked_count call = 0

abbrev pub cells_swapped : Told → ℕ
cells_swapped t = cell_count t.call

abbrev pub closings_told : Told → ℕ
closings_told t = closing_count t.call

abbrev pub closings_acked : Told → ℕ
closings_acked t = acked_count t.call
