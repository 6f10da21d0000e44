-- The rows that numbers tell, as further rows come to stand apart.
use Rattle.std.proofs.Common.{◌≡◌, ℕ, ◌+◌, ◌-◌, ◌^◌, ◌<◌, ◌≤◌, nat_lt, if◌then◌else◌, Bool, true, false, List, [], ◌∷◌, ◌++◌, length, refl, sym, ap, ◌∙◌, arith, length-append}
use Rattle.std.specs.Prelude.{Some, slice_get}
use Rattle.std.specs.List.{slice_index_or}
use Rattle.std.specs.Option.{option_map}
use Rattle.std.proofs.lemmas.Bool.{lt-ltb, le-ltb, ltb-true, ltb-false}
use Rattle.std.proofs.lemmas.List.{map-append, length-map, get_or_append_left}
use Rattle.std.proofs.lemmas.Option.{slice_get-map, slice_get_read, get_or_from_slice_get}
use Rattle.std.proofs.lemmas.List.Elements.{All-head, All-tail, All-push, All-same, All-get_or}
use Rattle.std.proofs.Math.ListN.{get_or}
use Rattle.std.proofs.Math.Seq.{get_or-append_seam}
use Rattle.xsk_log.specs.declared.log.Row.{Row}
use Rattle.xsk_log.specs.Repeats.{AreBelow, KeepsValues}
use Rattle.xsk_log.specs.RowCodes.{small_row, row_at, rows_at}
use Rattle.xsk_log.proofs.Places.{below-more}

pub small_at : (apart : List Row) (code : ℕ) → code < 2 ^ 31 → row_at apart code ≡ small_row code
small_at apart code below =
    ap (λ b. if b then small_row code else slice_index_or apart (code - 2 ^ 31) (small_row code)) (lt-ltb code (2 ^ 31) below)

apart_at : (apart : List Row) (code : ℕ) → 2 ^ 31 ≤ code → row_at apart code ≡ slice_index_or apart (code - 2 ^ 31) (small_row code)
apart_at apart code above =
    ap (λ b. if b then small_row code else slice_index_or apart (code - 2 ^ 31) (small_row code)) (le-ltb code (2 ^ 31) above)

-- the row of a number, in the list of all: where it is small, and where it stands apart
within_codes : (apart : List Row) (codes : List ℕ) (rows : List Row) (i : ℕ) → rows_at apart codes ≡ rows → i < length rows → i < length codes
within_codes apart codes rows i are within = omega (arith, within, ap length are, length-map codes (row_at apart))

row_here : (apart : List Row) (codes : List ℕ) (rows : List Row) (i code : ℕ) (row : Row) → rows_at apart codes ≡ rows → i < length rows → code ≡ get_or codes i code
    → row_at apart code ≡ row → slice_get rows i ≡ Some row
row_here apart codes rows i code row are within here is =
    ap (λ l. slice_get l i) (sym are) ∙ slice_get-map (row_at apart) codes i
    ∙ ap (option_map (row_at apart)) (slice_get_read codes (length codes) i code refl (within_codes apart codes rows i are within) here) ∙ ap (λ (r : Row). Some r) is

pub small_here : (apart : List Row) (codes : List ℕ) (rows : List Row) (i code : ℕ) (row : Row) → rows_at apart codes ≡ rows → i < length rows → code ≡ get_or codes i code
    → code < 2 ^ 31 → row ≡ small_row code → slice_get rows i ≡ Some row
small_here apart codes rows i code row are within here below is = row_here apart codes rows i code row are within here (small_at apart code below ∙ sym is)

pub apart_here : (apart : List Row) (codes : List ℕ) (rows : List Row) (i code : ℕ) (row : Row) → rows_at apart codes ≡ rows → i < length rows → code ≡ get_or codes i code
    → AreBelow (2 ^ 31 + length apart) codes → 2 ^ 31 ≤ code → row ≡ get_or apart (code - 2 ^ 31) row → slice_get rows i ≡ Some row
apart_here apart codes rows i code row are within here known above is =
    let below = All-get_or (λ (p : ℕ). p < 2 ^ 31 + length apart) codes i code (within_codes apart codes rows i are within) known in
    let stands = slice_get_read apart (length apart) (code - 2 ^ 31) row refl (omega (arith, below, here, above)) is in
    row_here apart codes rows i code row are within here (apart_at apart code above ∙ get_or_from_slice_get apart (code - 2 ^ 31) row (small_row code) stands)

-- a row stays when others come to stand behind those apart
row-more : (apart more : List Row) (code : ℕ) → code < 2 ^ 31 + length apart → row_at (apart ++ more) code ≡ row_at apart code
row-more apart more code within = pick (nat_lt code (2 ^ 31)) refl
  where
    pick : (b : Bool) → nat_lt code (2 ^ 31) ≡ b → row_at (apart ++ more) code ≡ row_at apart code
    pick true is =
        let below = ltb-true code (2 ^ 31) is in
        small_at (apart ++ more) code below ∙ sym (small_at apart code below)
    pick false is =
        let above = ltb-false code (2 ^ 31) is in
        apart_at (apart ++ more) code above
        ∙ get_or_append_left apart more (small_row code) (code - 2 ^ 31) (omega (arith, above, within))
        ∙ sym (apart_at apart code above)

rows-more : (apart more : List Row) (codes : List ℕ) → AreBelow (2 ^ 31 + length apart) codes → rows_at (apart ++ more) codes ≡ rows_at apart codes
rows-more apart more [] h = refl
rows-more apart more (code ∷ codes) h =
    ap (λ row. row ∷ rows_at (apart ++ more) codes) (row-more apart more code (All-head (λ (p : ℕ). p < 2 ^ 31 + length apart) code codes h))
    ∙ ap (λ rows. row_at apart code ∷ rows) (rows-more apart more codes (All-tail (λ (p : ℕ). p < 2 ^ 31 + length apart) code codes h))

-- the row that came to stand apart last
pub last_apart : (apart after : List Row) (row : Row) (code : ℕ) → after ≡ apart ++ row ∷ [] → code ≡ 2 ^ 31 + length apart → row_at after code ≡ row
last_apart apart after row code is place =
    let at : code - 2 ^ 31 ≡ length apart = omega (arith, place) in
    apart_at after code (omega (arith, place))
    ∙ ap (λ rows. slice_index_or rows (code - 2 ^ 31) (small_row code)) is
    ∙ ap (λ n. slice_index_or (apart ++ row ∷ []) n (small_row code)) at
    ∙ get_or-append_seam apart row [] (small_row code)

-- a number more, of a small row or of one that stands apart
pub rows-push : (apart kept : List Row) (codes after : List ℕ) (code : ℕ) (row : Row) → KeepsValues apart kept → row_at kept code ≡ row
    → after ≡ codes ++ code ∷ [] → AreBelow (2 ^ 31 + length apart) codes → rows_at kept after ≡ rows_at apart codes ++ row ∷ []
rows-push apart kept codes after code row grown at is below =
    let same : rows_at kept codes ≡ rows_at apart codes = ap (λ rows. rows_at rows codes) grown.is ∙ rows-more apart grown.more codes below in
    ap (rows_at kept) is ∙ map-append (row_at kept) codes (code ∷ [])
    ∙ ap (λ rows. rows ++ row_at kept code ∷ []) same
    ∙ ap (λ r. rows_at apart codes ++ r ∷ []) at

pub codes-push : (apart kept : List Row) (codes after : List ℕ) (code : ℕ) → KeepsValues apart kept → code < 2 ^ 31 + length kept
    → after ≡ codes ++ code ∷ [] → AreBelow (2 ^ 31 + length apart) codes → AreBelow (2 ^ 31 + length kept) after
codes-push apart kept codes after code grown within is below =
    let longer : length kept ≡ length apart + length grown.more = ap length grown.is ∙ length-append apart grown.more in
    All-same (λ (p : ℕ). p < 2 ^ 31 + length kept) after (codes ++ code ∷ []) is
    (All-push (λ (p : ℕ). p < 2 ^ 31 + length kept) codes code (below-more (2 ^ 31 + length apart) (2 ^ 31 + length kept) codes (omega (arith, longer)) below) within)
