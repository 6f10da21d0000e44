-- The items that the entry of a row shows.
use Rattle.std.proofs.Common.{◌≡◌, ◌⊎◌, inl, inr, ℕ, zero, suc, ◌+◌, ◌<◌, Option, Some, None, List, [], ◌∷◌, length, take, drop, map, slice_get, refl, ap, subst, arith, append-nil}
use Rattle.std.specs.Prelude.{sum_by}
use Rattle.std.specs.Option.{option_map}
use Rattle.xsk_umem.specs.declared.batch.Item.{Item}
use Rattle.xsk_model.specs.Entry.{Entry}
use Rattle.xsk_log.specs.Items.{items_of, next_items, number_in}
use Rattle.xsk_log.specs.Log.{entry_with, entries_from, entries_of, item_of}
use Rattle.xsk_log.specs.declared.log.Log.{Log}
use Rattle.xsk_log.specs.Pieces.{count_of}
use Rattle.xsk_log.specs.declared.log.Piece.{Piece}
use Rattle.xsk_log.specs.declared.log.Row.{Row}
use Rattle.xsk_log.specs.declared.log.Event.{Event}
use Rattle.xsk_log.specs.declared.log.Event.TheVariants.{Granted as WasGranted, Full as WasFull, Submitted as WasSubmitted, Items as HadItems, Empty as WasEmpty, Released as WasReleased, Swapped, Looked}
use Rattle.xsk_log.proofs.Parts.{length-entries}
use Rattle.xsk_log.proofs.RowLines.{has_one, row_entry, row_within}

-- the first of those that are left stands at the walk's place
pub next_at : (log : List Entry) (i : ℕ) (e : Entry) → slice_get log i ≡ Some e → next_items (drop i log) ≡ items_of e
next_at [] i e at = absurd (cc)
next_at (x ∷ log) zero e at =
    let same : x ≡ e = cc in
    ap items_of same
next_at (x ∷ log) (suc i) e at = next_at log i e at

-- where one is left, there is an entry at the walk's place
pub place_of_next : (log : List Entry) (i k : ℕ) → k < length (next_items (drop i log)) → i < length log
place_of_next [] zero k lt = absurd (omega (arith, lt))
place_of_next [] (suc i) k lt = absurd (omega (arith, lt))
place_of_next (x ∷ log) zero k lt = omega (arith)
place_of_next (x ∷ log) (suc i) k lt = omega (arith, place_of_next log i k lt)

-- an entry shows all items of its row, or none
pub all_or_none : (who : ℕ) (event : Event) (items : List Item) → (items_of (entry_with who event items) ≡ items) ⊎ (items_of (entry_with who event items) ≡ [])
all_or_none who (WasGranted r n) items = inr refl
all_or_none who (WasFull r n free) items = inr refl
all_or_none who (WasSubmitted r) items = inl (append-nil items)
all_or_none who (HadItems r n) items = inl refl
all_or_none who (WasEmpty r n) items = inr refl
all_or_none who (WasReleased r n) items = inr refl
all_or_none who (Swapped m value old) items = inr refl
all_or_none who (Looked m old) items = inr refl

at_take : {A : Type 0} (n : ℕ) (xs : List A) (i : ℕ) (x : A) → slice_get (take n xs) i ≡ Some x → (i < n) × (slice_get xs i ≡ Some x)
at_take zero xs i x at = absurd (cc)
at_take (suc n) [] i x at = absurd (cc)
at_take (suc n) (y ∷ xs) zero x at = (omega (arith), at)
at_take (suc n) (y ∷ xs) (suc i) x at =
    let rest = at_take n xs i x at in
    (omega (arith, rest.0), rest.1)

at_drop : {A : Type 0} (n : ℕ) (xs : List A) (i : ℕ) (x : A) → slice_get (drop n xs) i ≡ Some x → slice_get xs (n + i) ≡ Some x
at_drop zero xs i x at =
    let on : i ≡ 0 + i = omega arith in
    subst (λ (k : ℕ). slice_get xs k ≡ Some x) on at
at_drop (suc n) [] i x at = absurd (cc)
at_drop (suc n) (y ∷ xs) i x at =
    let on : suc (n + i) ≡ suc n + i = omega arith in
    subst (λ (k : ℕ). slice_get (y ∷ xs) k ≡ Some x) on (at_drop n xs i x at)

-- the items of a row
abbrev pub own_items : List Row → List Item → ℕ → Row → List Item
own_items rows all place row = take row.items (drop (sum_by count_of (take place rows)) all)

-- an item of the next entry is one of its row's
module _ (rows : List Row) (all : List Item) (place : ℕ) (row : Row) (at : slice_get rows place ≡ Some row) where
  pub shows_row : next_items (drop place (entries_from rows all)) ≡ items_of (entry_with row.who row.event (own_items rows all place row))
  shows_row = next_at (entries_from rows all) place (entry_with row.who row.event (own_items rows all place row)) (row_entry rows place row all at)

  pub item_at : (k : ℕ) (item : Item) → slice_get (next_items (drop place (entries_from rows all))) k ≡ Some item
      → (k < row.items) × (slice_get all (sum_by count_of (take place rows) + k) ≡ Some item)
  item_at k item is = by_cases (all_or_none row.who row.event (own_items rows all place row))
    where
      here : slice_get (items_of (entry_with row.who row.event (own_items rows all place row))) k ≡ Some item
      here = subst (λ (xs : List Item). slice_get xs k ≡ Some item) shows_row is

      by_cases : (items_of (entry_with row.who row.event (own_items rows all place row)) ≡ (own_items rows all place row)) ⊎ (items_of (entry_with row.who row.event (own_items rows all place row)) ≡ [])
          → (k < row.items) × (slice_get all (sum_by count_of (take place rows) + k) ≡ Some item)
      by_cases (inl same) =
          let cut = at_take row.items (drop (sum_by count_of (take place rows)) all) k item (subst (λ (xs : List Item). slice_get xs k ≡ Some item) same here) in
          (cut.0, at_drop (sum_by count_of (take place rows)) all k item cut.1)
      by_cases (inr none) =
          let bare : slice_get [] k ≡ Some item = subst (λ (xs : List Item). slice_get xs k ≡ Some item) none here in
          absurd (cc)

-- the frame of a piece is that of its item
pub frame_shown : (bytes : List ℕ) (piece : Piece) → option_map number_in (item_of bytes piece).frame ≡ piece.frame
frame_shown bytes piece = by_cases piece.frame
  where
    by_cases : (frame : Option ℕ) → option_map number_in (item_of bytes (record piece { frame = frame })).frame ≡ frame
    by_cases None = refl
    by_cases (Some n) = refl

-- so it stands among those of all rows
pub item_within : (log : Log) (place k start : ℕ) → start ≡ sum_by count_of (take place log.rows.items) → k < length (next_items (drop place (entries_of log))) → start + k < log.begun
item_within log place k start begins lt =
    let all : List Item = map (item_of log.bytes.items) log.pieces.items in
    let here = place_of_next (entries_of log) place k lt in
    let row = has_one log.rows.items place (omega (arith, here, length-entries log.rows.items all)) in
    let item = has_one (next_items (drop place (entries_of log))) k lt in
    let at = item_at log.rows.items all place row.0 row.1 k item.0 item.1 in
    let fits = row_within log.rows.items place row.0 row.1 in
    omega (arith, at.0, fits, begins, log.begun_is)
