-- The rows of the log as numbers. One whose numbers are small is a number below 2 ^ 31 itself, and any other one stands
-- apart and is told by its place behind 2 ^ 31.
use Rattle.std.specs.Prelude.{◌≡◌, ℕ, ◌-◌, ◌/◌, ◌%◌, ◌^◌, ◌<◌, ◌==◌, nat_lt, if◌then◌else◌, List, map}
use Rattle.std.specs.List.{slice_index_or}
use Rattle.xsk_model.specs.MarkKinds.{kind_at, mark_of}
use Rattle.xsk_model.specs.declared.call.Ring.{Ring}
use Rattle.xsk_model.specs.declared.call.Ring.TheVariants.{Fill, Comp, Rx, Tx}
use Rattle.xsk_model.specs.declared.call.Mark.{Mark}
use Rattle.xsk_model.specs.declared.call.Mark.TheVariants.{Cell}
use Rattle.xsk_log.specs.declared.log.Row.{Row}
use Rattle.xsk_log.specs.declared.log.Event.{Event}
use Rattle.xsk_log.specs.declared.log.Event.TheVariants.{Granted, Full, Submitted, Items, Empty, Released, Swapped, Looked}

pub record Rows : Type 0 where
  pub items : List Row
  pub spare : ℕ

abbrev pub ring_at : ℕ → ℕ → Ring
ring_at side place =
    if side == 0 then Fill place else if side == 1 then Comp place else if side == 2 then Rx place else Tx place

abbrev pub ring_place : Ring → ℕ
ring_place (Fill pair) = pair
ring_place (Comp pair) = pair
ring_place (Rx socket) = socket
ring_place (Tx socket) = socket

-- a mark by the row of its kind
abbrev pub mark_at : (row number index : ℕ) → Mark
mark_at row number index = mark_of (kind_at row) number index

-- one of the six kinds of calls on a ring
abbrev pub ring_event : (kind : ℕ) → Ring → (first second : ℕ) → Event
ring_event kind ring first second =
    if kind == 0 then Granted ring first
    else if kind == 1 then Submitted ring
    else if kind == 2 then Items ring first
    else if kind == 3 then Empty ring first
    else if kind == 4 then Released ring first
    else Full ring first second

-- these on each of the four kinds of rings come first, then a swap and a look of each of the ten kinds of marks
abbrev pub event_at : (event place first second : ℕ) → Event
event_at event place first second =
    if nat_lt event 24 then ring_event (event / 4) (ring_at (event % 4) place) first second
    else if nat_lt event 34 then Swapped (mark_at (event - 24) place 0) first second
    else Looked (mark_at (event - 34) place second) first

-- the second number is that of the items, but where the event tells it
abbrev pub items_with : Event → ℕ → ℕ
items_with (Full ring count free) second = 0
items_with (Swapped mark value old) second = 0
items_with (Looked (Cell port index) old) second = 0
items_with event second = second

abbrev pub row_with : (who event place first second : ℕ) → Row
row_with who event place first second = record {
  who = who;
  event = event_at event place first second;
  items = items_with (event_at event place first second) second;
}

-- the digits of a small row's number from the last on: two numbers and the place below 64, the caller below 128, and which
-- event it is below 64
abbrev pub small_row : ℕ → Row
small_row code = row_with (code / 64 / 64 / 64 % 128) (code / 64 / 64 / 64 / 128) (code / 64 / 64 % 64) (code / 64 % 64) (code % 64)

-- it is that of a number
abbrev pub IsSmall : Row → Type 0
IsSmall row = (code : ℕ) × (code < 2 ^ 31) × (small_row code ≡ row)

-- the row of a number, where these rows stand apart
abbrev pub row_at : List Row → ℕ → Row
row_at apart code = if nat_lt code (2 ^ 31) then small_row code else slice_index_or apart (code - 2 ^ 31) (small_row code)

abbrev pub rows_at : List Row → List ℕ → List Row
rows_at apart codes = map (row_at apart) codes

-- the second number of a look: a cell's index, and else the number of the items
abbrev pub look_number : Mark → ℕ → ℕ
look_number (Cell port index) items = index
look_number mark items = items
