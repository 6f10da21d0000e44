-- The items that stand in a batch's places, after one was put behind them or taken from their front.
use Rattle.std.proofs.Common.{◌≡◌, ℕ, zero, suc, ◌+◌, ◌-◌, ◌<◌, ◌≤◌, ◌%◌, ◌≢◌, List, [], ◌∷◌, ◌++◌, Some, length, get_or, slice_get, set, refl, ◌∙◌, ap, arith}
use Rattle.std.proofs.lemmas.List.{get_or-set_other, get_or-set_same}
use Rattle.xsk_umem.specs.declared.batch.Item.{Item}
use Rattle.xsk_umem.specs.Batch.{blank, items_from}

pub length-items_from : (places : List Item) (at count : ℕ) → length (items_from places at count) ≡ count
length-items_from places at zero = refl
length-items_from places at (suc count) = ap suc (length-items_from places (at + 1) count)

next_around : (at place : ℕ) → at % 32 ≡ place % 32 → (at + 1) % 32 ≡ (place + 1) % 32
next_around at place h = omega arith

-- only the place of the first item counts, not how often it went round
pub around : (places : List Item) (at place count : ℕ) → at % 32 ≡ place % 32 → items_from places at count ≡ items_from places place count
around places at place zero h = refl
around places at place (suc count) h =
    let rest : items_from places (at + 1) count ≡ items_from places (place + 1) count = around places (at + 1) (place + 1) count (next_around at place h) in
    rw (h, rest) refl

other_place : (at place : ℕ) → at < place → place < at + 32 → at % 32 ≢ place % 32
other_place at place first last = omega arith

-- what is put into a place that isn't among them leaves them
pub put_elsewhere : (places : List Item) (at count place : ℕ) (item : Item) → at + count ≤ place → place < at + 32 → items_from (set places (place % 32) item) at count ≡ items_from places at count
put_elsewhere places at zero place item first last = refl
put_elsewhere places at (suc count) place item first last =
    let here : get_or (set places (place % 32) item) (at % 32) blank ≡ get_or places (at % 32) blank =
    get_or-set_other places (place % 32) (at % 32) item blank (other_place at place (omega arith) last) in
    let rest : items_from (set places (place % 32) item) (at + 1) count ≡ items_from places (at + 1) count =
    put_elsewhere places (at + 1) count place item (omega arith) (omega arith) in
    rw (here, rest) refl

-- one more item is the one in the place behind them
one_more : (places : List Item) (at count : ℕ) → items_from places at (count + 1) ≡ items_from places at count ++ get_or places ((at + count) % 32) blank ∷ []
one_more places at zero = let here : at + 0 ≡ at = omega arith in rw here refl
one_more places at (suc count) =
    let rest : items_from places (at + 1) (count + 1) ≡ items_from places (at + 1) count ++ get_or places ((at + 1 + count) % 32) blank ∷ [] = one_more places (at + 1) count in
    let end : at + suc count ≡ at + 1 + count = omega arith in
    let more : suc count + 1 ≡ suc (count + 1) = omega arith in
    rw (more, end, rest) refl

pub put_behind : (places : List Item) (at count : ℕ) (item : Item) → length places ≡ 32 → count < 32
    → items_from (set places ((at + count) % 32) item) at (count + 1) ≡ items_from places at count ++ item ∷ []
put_behind places at count item full few =
    let within : (at + count) % 32 < length places = omega arith in
    rw (one_more (set places ((at + count) % 32) item) at count, put_elsewhere places at count (at + count) item (omega arith) (omega arith), get_or-set_same places ((at + count) % 32) item blank within) refl

-- the first item, and those that are left when another stands in its place
pub take_first : (places : List Item) (at count : ℕ) (item : Item) → at < 32 → 0 < count → count ≤ 32
    → items_from places at count ≡ get_or places at blank ∷ items_from (set places at item) ((at + 1) % 32) (count - 1)
take_first places at zero item first some few = absurd (omega arith)
take_first places at (suc count) item first some few =
    let here : at % 32 ≡ at = omega arith in
    let round : (at + 32) % 32 ≡ at = omega arith in
    let moved : items_from (set places at item) ((at + 1) % 32) count ≡ items_from (set places at item) (at + 1) count =
    around (set places at item) ((at + 1) % 32) (at + 1) count (omega arith) in
    let left : items_from (set places at item) (at + 1) count ≡ items_from places (at + 1) count =
    rw round at (put_elsewhere places (at + 1) count (at + 32) item (omega arith) (omega arith)) in
    let fewer : suc count - 1 ≡ count = omega arith in
    rw (fewer, moved, left, here) refl

-- the item by its number
pub at_place : (places : List Item) (at count i : ℕ) → i < count → slice_get (items_from places at count) i ≡ Some (get_or places ((at + i) % 32) blank)
at_place places at zero i few = absurd (omega arith)
at_place places at (suc count) zero few = let here : at + 0 ≡ at = omega arith in rw here refl
at_place places at (suc count) (suc i) few =
    let there : at + 1 + i ≡ at + suc i = omega arith in
    at_place places (at + 1) count i (omega arith) ∙ rw there refl
