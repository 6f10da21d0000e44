-- What the digits of small rows are.
use Rattle.std.proofs.Common.{◌≡◌, ℕ, zero, suc, ◌+◌, ◌-◌, ◌*◌, ◌/◌, ◌%◌, ◌<◌, inl, inr, ◌==◌, Bool, true, false, if◌then◌else◌, refl, subst, arith}
use Rattle.std.proofs.lemmas.Bool.{cases_lt, lt-ltb, le-ltb}
use Rattle.xsk_model.specs.MarkKinds.{number_of, index_of, mark_of, kind_at}
use Rattle.xsk_model.specs.declared.marks.MarkKind.{MarkKind}
use Rattle.xsk_model.specs.declared.marks.MarkKind.TheVariants as kinds
use Rattle.xsk_model.specs.declared.call.Ring.{Ring}
use Rattle.xsk_model.specs.declared.call.Ring.TheVariants.{Fill, Comp, Rx, Tx}
use Rattle.xsk_log.specs.declared.log.Row.{Row}
use Rattle.xsk_log.specs.declared.log.Event.{Event}
use Rattle.xsk_log.specs.declared.log.Event.TheVariants.{Granted, Full, Submitted, Items, Empty, Released, Swapped, Looked}
use Rattle.xsk_log.specs.RowCodes.{ring_at, ring_place, ring_event, event_at, items_with, look_number, IsSmall}

-- the event of a kind and a ring, by the digits of its number
pub ring_event-at : (kind side place first second : ℕ) → kind < 6 → side < 4 → event_at (kind * 4 + side) place first second ≡ ring_event kind (ring_at side place) first second
ring_event-at kind side place first second known below =
    let within : kind * 4 + side < 24 = omega (arith, known, below) in
    let which : (kind * 4 + side) / 4 ≡ kind = omega (arith, below) in
    let of : (kind * 4 + side) % 4 ≡ side = omega (arith, below) in
    rw (lt-ltb (kind * 4 + side) 24 within, which, of) refl

-- all numbers are below 64, and there are no items where the second number is another
abbrev pub IsLittle : Event → ℕ → Type 0
IsLittle (Granted ring count) items = (ring_place ring < 64) × (count < 64) × (items < 64)
IsLittle (Submitted ring) items = (ring_place ring < 64) × (items < 64)
IsLittle (Items ring count) items = (ring_place ring < 64) × (count < 64) × (items < 64)
IsLittle (Empty ring count) items = (ring_place ring < 64) × (count < 64) × (items < 64)
IsLittle (Released ring count) items = (ring_place ring < 64) × (count < 64) × (items < 64)
IsLittle (Full ring count free) items = (ring_place ring < 64) × (count < 64) × (free < 64) × (items ≡ 0)
IsLittle (Swapped mark value old) items = (number_of mark < 64) × (index_of mark ≡ 0) × (value < 64) × (old < 64) × (items ≡ 0)
IsLittle (Looked mark old) items = (number_of mark < 64) × (old < 64) × (look_number mark items < 64) × (items_with (Looked mark old) (look_number mark items) ≡ items)

either : (b : Bool) (x y : Ring) → ring_place x < 64 → ring_place y < 64 → ring_place (if b then x else y) < 64
either true x y one other = one
either false x y one other = other

ring_below : (side place : ℕ) → place < 64 → ring_place (ring_at side place) < 64
ring_below side place below =
    either (side == 0) (Fill place) _ below
    (either (side == 1) (Comp place) _ below
    (either (side == 2) (Rx place) (Tx place) below below))

call_below : (kind : ℕ) (ring : Ring) (first second : ℕ) → kind < 6 → ring_place ring < 64 → first < 64 → second < 64
    → IsLittle (ring_event kind ring first second) (items_with (ring_event kind ring first second) second)
call_below zero ring first second known placed one two = (placed, one, two)
call_below (suc zero) ring first second known placed one two = (placed, two)
call_below (suc (suc zero)) ring first second known placed one two = (placed, one, two)
call_below (suc (suc (suc zero))) ring first second known placed one two = (placed, one, two)
call_below (suc (suc (suc (suc zero)))) ring first second known placed one two = (placed, one, two)
call_below (suc (suc (suc (suc (suc zero))))) ring first second known placed one two = (placed, one, two, refl)
call_below (suc (suc (suc (suc (suc (suc n)))))) ring first second known placed one two = absurd (omega (arith, known))

swap_below : (kind : MarkKind) (place first second : ℕ) → place < 64 → first < 64 → second < 64 → IsLittle (Swapped (mark_of kind place 0) first second) 0
swap_below kinds.NeedFill place first second placed one two = (placed, refl, one, two, refl)
swap_below kinds.NeedTx place first second placed one two = (placed, refl, one, two, refl)
swap_below kinds.Kick place first second placed one two = (placed, refl, one, two, refl)
swap_below kinds.RxDone place first second placed one two = (placed, refl, one, two, refl)
swap_below kinds.Gone place first second placed one two = (placed, refl, one, two, refl)
swap_below kinds.TxDone place first second placed one two = (placed, refl, one, two, refl)
swap_below kinds.Cell place first second placed one two = (placed, refl, one, two, refl)
swap_below kinds.Closing place first second placed one two = (placed, refl, one, two, refl)
swap_below kinds.Acked place first second placed one two = (placed, refl, one, two, refl)
swap_below kinds.Bounced place first second placed one two = (placed, refl, one, two, refl)

look_below : (kind : MarkKind) (place first second : ℕ) → place < 64 → first < 64 → second < 64
    → IsLittle (Looked (mark_of kind place second) first) (items_with (Looked (mark_of kind place second) first) second)
look_below kinds.NeedFill place first second placed one two = (placed, one, two, refl)
look_below kinds.NeedTx place first second placed one two = (placed, one, two, refl)
look_below kinds.Kick place first second placed one two = (placed, one, two, refl)
look_below kinds.RxDone place first second placed one two = (placed, one, two, refl)
look_below kinds.Gone place first second placed one two = (placed, one, two, refl)
look_below kinds.TxDone place first second placed one two = (placed, one, two, refl)
look_below kinds.Cell place first second placed one two = (placed, one, two, refl)
look_below kinds.Closing place first second placed one two = (placed, one, two, refl)
look_below kinds.Acked place first second placed one two = (placed, one, two, refl)
look_below kinds.Bounced place first second placed one two = (placed, one, two, refl)

event_below : (event place first second : ℕ) → place < 64 → first < 64 → second < 64
    → IsLittle (event_at event place first second) (items_with (event_at event place first second) second)
event_below event place first second placed one two = elim (cases_lt event 24) [
  | inl ring ↦ rw (lt-ltb event 24 ring) (call_below (event / 4) (ring_at (event % 4) place) first second (omega (arith, ring)) (ring_below (event % 4) place placed) one two)
  | inr mark ↦ rw (le-ltb event 24 mark) (elim (cases_lt event 34) [
    | inl swap ↦ rw (lt-ltb event 34 swap) (swap_below (kind_at (event - 24)) place first second placed one two)
    | inr look ↦ rw (le-ltb event 34 look) (look_below (kind_at (event - 34)) place first second placed one two)
  ])
]

pub small_below : (row : Row) → IsSmall row → (row.who < 128) × IsLittle row.event row.items
small_below row small =
    let code = small.0 in
    let event = event_at (code / 64 / 64 / 64 / 128) (code / 64 / 64 % 64) (code / 64 % 64) (code % 64) in
    let little : IsLittle event (items_with event (code % 64)) =
    event_below (code / 64 / 64 / 64 / 128) (code / 64 / 64 % 64) (code / 64 % 64) (code % 64) (omega arith) (omega arith) (omega arith) in
    (subst (λ (r : Row). r.who < 128) small.2 (omega arith), subst (λ (r : Row). IsLittle r.event r.items) small.2 little)

-- what is small of a row by its event
pub little_as : (row : Row) (event : Event) → row.event ≡ event → IsSmall row → IsLittle event row.items
little_as row event is small = subst (λ e. IsLittle e row.items) is (small_below row small).1
