-- The lines of rows: which value stands at a place, where a row's items begin, and which entry it is.
use Rattle.std.proofs.Common.{◌≡◌, ℕ, zero, suc, ◌+◌, ◌<◌, ◌≤◌, Some, None, List, [], ◌∷◌, ◌++◌, length, take, drop, get_or, refl, sym, ap, subst, ◌∙◌, arith, append-nil, append_assoc}
use Rattle.std.specs.Prelude.{All, sum_by, slice_get, unwrap_or}
use Rattle.std.proofs.lemmas.List.{take_more, get_or-drop, drop-drop, length-drop}
use Rattle.std.proofs.lemmas.List.Concat.{flat_map-append}
use Rattle.std.proofs.lemmas.List.Elements.{All-head, All-tail, All-get_or}
use Rattle.std.proofs.lemmas.List.Sums.{sum_by-cons, sum_by_more, sum_by_more_le}
use Rattle.std.proofs.lemmas.Option.{slice_get_within, unwrap_or-slice_get}
use Rattle.xsk_umem.specs.declared.batch.Item.{Item}
use Rattle.xsk_model.specs.Entry.{Entry}
use Rattle.xsk_log.specs.declared.log.Row.{Row}
use Rattle.xsk_log.specs.Repeats.{Repeats, of_option, values_at, AreBelow}
use Rattle.xsk_log.specs.Pieces.{count_of, IsShort}
use Rattle.xsk_log.specs.Log.{entry_with, entries_from}
use Rattle.xsk_log.specs.Line.{item_text, items_text, line_of, TakesLine}
use Rattle.xsk_log.proofs.Places.{length-values}

-- an element that a place has is the one that stands there, whatever stands for a missing one
pub stands_at : {A : Type 0} (xs : List A) (i : ℕ) (x d : A) → slice_get xs i ≡ Some x → get_or xs i d ≡ x
stands_at xs i x d at = sym (unwrap_or-slice_get xs i d) ∙ ap (λ o. unwrap_or o d) at

-- a place below the end has an element
pub has_one : {A : Type 0} (xs : List A) (i : ℕ) → i < length xs → (x : A) × (slice_get xs i ≡ Some x)
has_one [] i lt = absurd (omega (arith, lt))
has_one (x ∷ xs) zero lt = (x, refl)
has_one (x ∷ xs) (suc i) lt = has_one xs i (omega (arith, lt))

-- the element that is read below the end
pub has_at : {A : Type 0} (xs : List A) (i : ℕ) (x : A) → i < length xs → x ≡ get_or xs i x → slice_get xs i ≡ Some x
has_at xs i x lt is = let t = has_one xs i lt in t.1 ∙ ap Some (sym (stands_at xs i t.0 x t.1) ∙ sym is)

-- ---- lists of which each value is kept once

pub value_at : {T : Type 0} (values : List T) (places : List ℕ) (i place : ℕ) (value : T) → AreBelow (length values) places
    → slice_get places i ≡ Some place → slice_get values place ≡ Some value → slice_get (values_at values places) i ≡ Some value
value_at values [] i place value below at is = absurd (cc)
value_at values (p ∷ places) zero place value below at is =
    let same : p ≡ place = cc in
    let here : slice_get values p ≡ Some value = ap (slice_get values) same ∙ is in
    ap (λ o. slice_get (of_option o ++ values_at values places) 0) here
value_at values (p ∷ places) (suc i) place value below at is =
    let first = has_one values p (All-head (λ (q : ℕ). q < length values) p places below) in
    ap (λ o. slice_get (of_option o ++ values_at values places) (suc i)) first.1
    ∙ value_at values places i place value (All-tail (λ (q : ℕ). q < length values) p places below) at is

-- a place that is read is that of a value
pub place_within : (count : ℕ) (places : List ℕ) (i place : ℕ) → AreBelow count places → i < length places → place ≡ get_or places i place → place < count
place_within count places i place below lt is =
    subst (λ (p : ℕ). p < count) (sym is) (All-get_or (λ (p : ℕ). p < count) places i place lt below)

-- so is one that the list shows to be there
pub read_within : {T : Type 0} (values : List T) (places : List ℕ) (shown : Repeats T) (spare i : ℕ) → record { values = values; items = values_at values places; spare = spare } ≡ shown
    → AreBelow (length values) places → i < length shown.items → i < length places
read_within values places shown spare i view below lt =
    subst (λ (n : ℕ). i < n) (sym (ap (λ list. length list.items) view) ∙ length-values values places below) lt

-- ---- where the items of a row begin

pub next_start : (rows : List Row) (k : ℕ) (row : Row) → slice_get rows k ≡ Some row → sum_by count_of (take (k + 1) rows) ≡ sum_by count_of (take k rows) + row.items
next_start rows k row at = sum_by_more count_of rows k row (slice_get_within rows k row at) ∙ ap (λ (r : Row). sum_by count_of (take k rows) + r.items) (stands_at rows k row row at)

-- they are items of the log
pub row_within : (rows : List Row) (k : ℕ) (row : Row) → slice_get rows k ≡ Some row → sum_by count_of (take k rows) + row.items ≤ sum_by count_of rows
row_within rows k row at =
    subst (λ (r : Row). sum_by count_of (take k rows) + r.items ≤ sum_by count_of rows) (stands_at rows k row row at)
    (sum_by_more_le count_of rows k row (slice_get_within rows k row at))

-- the entry of a row has them
pub row_entry : (rows : List Row) (i : ℕ) (row : Row) (items : List Item) → slice_get rows i ≡ Some row
    → slice_get (entries_from rows items) i ≡ Some (entry_with row.who row.event (take row.items (drop (sum_by count_of (take i rows)) items)))
row_entry [] i row items at = absurd (cc)
row_entry (first ∷ rows) zero row items at =
    let same : first ≡ row = cc in
    ap (λ (r : Row). Some (entry_with r.who r.event (take r.items items))) same
row_entry (first ∷ rows) (suc i) row items at =
    let sum : sum_by count_of (first ∷ take i rows) ≡ first.items + sum_by count_of (take i rows) = sum_by-cons count_of first (take i rows) in
    row_entry rows i row (drop first.items items) at
    ∙ ap (λ xs. Some (entry_with row.who row.event (take row.items xs)))
    (drop-drop (sum_by count_of (take i rows)) first.items items ∙ ap (λ n. drop n items) (sym sum))

-- ---- items one behind the other

pub next_item : {A : Type 0} (xs : List A) (start k : ℕ) (x : A) → slice_get xs (start + k) ≡ Some x → take (k + 1) (drop start xs) ≡ take k (drop start xs) ++ x ∷ []
next_item xs start k x at =
    let end = slice_get_within xs (start + k) x at in
    let len = length-drop start xs in
    let within : k < length (drop start xs) = omega (arith, end, len) in
    take_more (drop start xs) k x within ∙ ap (λ y. take k (drop start xs) ++ y ∷ []) (get_or-drop start xs k x ∙ stands_at xs (start + k) x x at)

pub one_more_text : (items : List Item) (x : Item) → items_text (items ++ x ∷ []) ≡ items_text items ++ item_text x
one_more_text items x = flat_map-append item_text items (x ∷ []) ∙ ap (λ t. items_text items ++ t) (append-nil (item_text x))

-- a row has few items
pub row_short : (rows : List Row) (i : ℕ) (row : Row) → All IsShort rows → slice_get rows i ≡ Some row → IsShort row
row_short rows i row short at = subst IsShort (stands_at rows i row row at) (All-get_or IsShort rows i row (slice_get_within rows i row at) short)

-- ---- parts of a line

pub joins : (front call arrow reply : List ℕ) → front ++ ((call ++ arrow) ++ reply) ≡ ((front ++ call) ++ arrow) ++ reply
joins front call arrow reply = sym (append_assoc front (call ++ arrow) reply) ∙ ap (λ t. t ++ reply) (sym (append_assoc front call arrow))

-- ---- a walk over the entries

-- the first of those that are left stands at the walk's place
pub passes : (pairs : ℕ) (log : List Entry) (i who : ℕ) (e : Entry) (before line : List ℕ) → slice_get log i ≡ Some e → e.who ≡ who → line ≡ line_of pairs e
    → TakesLine pairs (drop i log) (drop (suc i) log) before line (Some who)
passes pairs [] i who e before line at caller is = absurd (cc)
passes pairs (x ∷ log) zero who e before line at caller is =
    let same : e ≡ x = cc in
    (ap Some (sym caller ∙ ap (λ (y : Entry). y.who) same), refl, is ∙ ap (line_of pairs) same)
passes pairs (x ∷ log) (suc i) who e before line at caller is = passes pairs log i who e before line at caller is

-- the same entry stands there, by whatever it is told
pub one_caller : (log : List Entry) (i : ℕ) (e f : Entry) → slice_get log i ≡ Some e → slice_get log i ≡ Some f → e.who ≡ f.who
one_caller log i e f first second =
    let same : e ≡ f = cc in
    ap (λ (x : Entry). x.who) same

-- none is left at the end
pub none_left : (log : List Entry) (i : ℕ) → length log ≤ i → drop i log ≡ []
none_left [] zero end = refl
none_left [] (suc i) end = refl
none_left (x ∷ log) zero end = absurd (omega (arith, end))
none_left (x ∷ log) (suc i) end = none_left log i (omega (arith, end))

pub stays : (pairs : ℕ) (log : List Entry) (i : ℕ) (line : List ℕ) → length log ≤ i → TakesLine pairs (drop i log) (drop i log) line line None
stays pairs log i line end = subst (λ (left : List Entry). TakesLine pairs left left line line None) (sym (none_left log i end)) (refl, refl, refl)
