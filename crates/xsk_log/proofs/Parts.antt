-- What extents show after their list has grown, and what the log's rows and pieces show then.
use Rattle.std.proofs.Common.{◌≡◌, ℕ, suc, ◌+◌, ◌≤◌, List, [], ◌∷◌, ◌++◌, length, take, drop, map, refl, sym, ap, ◌∙◌, arith, length-drop}
use Rattle.std.specs.Prelude.{All, sum_by}
use Rattle.std.specs.Option.{option_map}
use Rattle.std.proofs.lemmas.List.{drop-append-le, take-append-le, drop-drop, drop-map, drop_all, length-map, map-append}
use Rattle.std.proofs.lemmas.List.Sums.{sum_by-cons}
use Rattle.std.proofs.lemmas.List.Elements.{All-head, All-tail, All-drop}
use Rattle.std.proofs.Math.Seq.{drop-append_seam, take-length}
use Rattle.xsk_umem.specs.declared.batch.Item.{Item}
use Rattle.xsk_log.specs.declared.log.Piece.{Piece}
use Rattle.xsk_log.specs.declared.log.Row.{Row}
use Rattle.xsk_log.specs.declared.log.Extent.{Extent}
use Rattle.xsk_log.specs.Extents.{at_extent, IsWithin}
use Rattle.xsk_log.specs.Pieces.{IsPieceIn, count_of}
use Rattle.xsk_log.specs.Log.{item_of, entry_with, entries_from}

pub at_extent-append : {A : Type 0} (xs more : List A) (extent : Extent) → IsWithin xs extent → at_extent (xs ++ more) extent ≡ at_extent xs extent
at_extent-append xs more extent h =
    let start : extent.start ≤ length xs = omega arith in
    let len : extent.len ≤ length (drop extent.start xs) = omega (arith, length-drop extent.start xs) in
    rw (drop-append-le extent.start xs more start) (take-append-le extent.len (drop extent.start xs) more len)

-- the extent of what was appended shows it
pub at_extent-end : {A : Type 0} (xs more : List A) (extent : Extent) → extent.start ≡ length xs → extent.len ≡ length more → at_extent (xs ++ more) extent ≡ more
at_extent-end xs more extent start len = rw (start, len, drop-append_seam xs more) (take-length more)

item_of-append : (bytes more : List ℕ) (piece : Piece) → IsPieceIn bytes piece → item_of (bytes ++ more) piece ≡ item_of bytes piece
item_of-append bytes more piece h =
    ap (λ (shown : List ℕ). record { frame = option_map (λ (n : ℕ). record { number = n; bytes = shown }) piece.frame; desc = piece.desc }) (at_extent-append bytes more piece.payload h)

map_item_of-append : (bytes more : List ℕ) (pieces : List Piece) → All (IsPieceIn bytes) pieces → map (item_of (bytes ++ more)) pieces ≡ map (item_of bytes) pieces
map_item_of-append bytes more [] h = refl
map_item_of-append bytes more (piece ∷ pieces) h =
    let first : item_of (bytes ++ more) piece ≡ item_of bytes piece = item_of-append bytes more piece (All-head (IsPieceIn bytes) piece pieces h) in
    let rest : map (item_of (bytes ++ more)) pieces ≡ map (item_of bytes) pieces = map_item_of-append bytes more pieces (All-tail (IsPieceIn bytes) piece pieces h) in
    cc

-- the items of pieces stay when bytes are appended
pub items-bytes : (bytes after more : List ℕ) (pieces : List Piece) → after ≡ bytes ++ more → All (IsPieceIn bytes) pieces → map (item_of after) pieces ≡ map (item_of bytes) pieces
items-bytes bytes after more pieces is h = rw is (map_item_of-append bytes more pieces h)

-- so do those from a place on
pub noted-bytes : (bytes after more : List ℕ) (pieces : List Piece) (begun : ℕ) → after ≡ bytes ++ more → All (IsPieceIn bytes) pieces
    → map (item_of after) (drop begun pieces) ≡ map (item_of bytes) (drop begun pieces)
noted-bytes bytes after more pieces begun is h = items-bytes bytes after more (drop begun pieces) is (All-drop (IsPieceIn bytes) begun pieces h)

-- ---- the entries of rows

-- there are as many as rows
pub length-entries : (rows : List Row) (items : List Item) → length (entries_from rows items) ≡ length rows
length-entries [] items = refl
length-entries (row ∷ rows) items = ap suc (length-entries rows (drop row.items items))

-- they stay when items are appended behind those of all rows
pub entries-items : (rows : List Row) (items more : List Item) → sum_by count_of rows ≤ length items → entries_from rows (items ++ more) ≡ entries_from rows items
entries-items [] items more h = refl
entries-items (row ∷ rows) items more h =
    let sum : sum_by count_of (row ∷ rows) ≡ row.items + sum_by count_of rows = sum_by-cons count_of row rows in
    let here : row.items ≤ length items = omega (arith, h, sum) in
    let there : sum_by count_of rows ≤ length (drop row.items items) = omega (arith, h, sum, length-drop row.items items) in
    let first : take row.items (items ++ more) ≡ take row.items items = take-append-le row.items items more here in
    let left : drop row.items (items ++ more) ≡ drop row.items items ++ more = drop-append-le row.items items more here in
    let rest : entries_from rows (drop row.items (items ++ more)) ≡ entries_from rows (drop row.items items) =
    ap (entries_from rows) left ∙ entries-items rows (drop row.items items) more there in
    ap (λ xs. entry_with row.who row.event xs ∷ entries_from rows (drop row.items (items ++ more))) first
    ∙ ap (λ es. entry_with row.who row.event (take row.items items) ∷ es) rest

-- one more row has the items behind those of the others
pub entries-row : (rows : List Row) (row : Row) (items : List Item)
    → entries_from (rows ++ row ∷ []) items ≡ entries_from rows items ++ entry_with row.who row.event (take row.items (drop (sum_by count_of rows) items)) ∷ []
entries-row [] row items = refl
entries-row (first ∷ rows) row items =
    let sum : sum_by count_of (first ∷ rows) ≡ first.items + sum_by count_of rows = sum_by-cons count_of first rows in
    let at : drop (sum_by count_of rows) (drop first.items items) ≡ drop (sum_by count_of (first ∷ rows)) items =
    drop-drop (sum_by count_of rows) first.items items ∙ ap (λ n. drop n items) (sym sum) in
    ap (λ es. entry_with first.who first.event (take first.items items) ∷ es)
    (entries-row rows row (drop first.items items)
    ∙ ap (λ xs. entries_from rows (drop first.items items) ++ entry_with row.who row.event (take row.items xs) ∷ []) at)

-- they stay when bytes are appended
pub entries-bytes : (bytes after more : List ℕ) (pieces : List Piece) (rows : List Row) → after ≡ bytes ++ more → All (IsPieceIn bytes) pieces
    → entries_from rows (map (item_of after) pieces) ≡ entries_from rows (map (item_of bytes) pieces)
entries-bytes bytes after more pieces rows is h = ap (entries_from rows) (items-bytes bytes after more pieces is h)

-- and when pieces are
pub entries-pieces : (bytes : List ℕ) (pieces after more : List Piece) (rows : List Row) → after ≡ pieces ++ more → sum_by count_of rows ≤ length pieces
    → entries_from rows (map (item_of bytes) after) ≡ entries_from rows (map (item_of bytes) pieces)
entries-pieces bytes pieces after more rows is within =
    ap (λ ps. entries_from rows (map (item_of bytes) ps)) is
    ∙ ap (entries_from rows) (map-append (item_of bytes) pieces more)
    ∙ entries-items rows (map (item_of bytes) pieces) (map (item_of bytes) more) (omega (arith, within, length-map pieces (item_of bytes)))

-- one more row with all items behind those of the others
pub entries-enter : (bytes : List ℕ) (pieces : List Piece) (rows after : List Row) (row : Row) (begun : ℕ) → after ≡ rows ++ row ∷ [] → sum_by count_of rows ≡ begun
    → row.items + begun ≡ length pieces
    → entries_from after (map (item_of bytes) pieces) ≡ entries_from rows (map (item_of bytes) pieces) ++ entry_with row.who row.event (map (item_of bytes) (drop begun pieces)) ∷ []
entries-enter bytes pieces rows after row begun is sum all =
    let items = map (item_of bytes) pieces in
    let rest : drop (sum_by count_of rows) items ≡ map (item_of bytes) (drop begun pieces) = ap (λ n. drop n items) sum ∙ drop-map (item_of bytes) begun pieces in
    let count : row.items ≡ length (map (item_of bytes) (drop begun pieces)) = omega (arith, all, length-map (drop begun pieces) (item_of bytes), length-drop begun pieces) in
    let whole : take row.items (drop (sum_by count_of rows) items) ≡ map (item_of bytes) (drop begun pieces) =
    ap (take row.items) rest ∙ ap (λ n. take n (map (item_of bytes) (drop begun pieces))) count ∙ take-length (map (item_of bytes) (drop begun pieces)) in
    ap (λ rs. entries_from rs items) is ∙ entries-row rows row items
    ∙ ap (λ xs. entries_from rows items ++ entry_with row.who row.event xs ∷ []) whole

-- there are as many items from a place on as pieces
pub length-noted : (bytes : List ℕ) (pieces : List Piece) (begun : ℕ) → begun ≤ length pieces → length (map (item_of bytes) (drop begun pieces)) + begun ≡ length pieces
length-noted bytes pieces begun within = omega (arith, within, length-map (drop begun pieces) (item_of bytes), length-drop begun pieces)

-- and none where there are no pieces
pub noted-none : (bytes : List ℕ) (pieces : List Piece) (begun : ℕ) → length pieces ≤ begun → map (item_of bytes) (drop begun pieces) ≡ []
noted-none bytes pieces begun all = ap (map (item_of bytes)) (drop_all begun pieces all)

-- the items from a place on, after one more piece
pub noted-pieces : (bytes : List ℕ) (pieces after : List Piece) (piece : Piece) (begun : ℕ) → after ≡ pieces ++ piece ∷ [] → begun ≤ length pieces
    → map (item_of bytes) (drop begun after) ≡ map (item_of bytes) (drop begun pieces) ++ item_of bytes piece ∷ []
noted-pieces bytes pieces after piece begun is within =
    rw (is, drop-append-le begun pieces (piece ∷ []) within) (map-append (item_of bytes) (drop begun pieces) (piece ∷ []))
