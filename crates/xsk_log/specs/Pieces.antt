-- That the log's pieces lie within its bytes, and how many of them a row has.
use Rattle.std.specs.Prelude.{ℕ, ◌≤◌, List}
use Rattle.xsk_umem.specs.Limits.{most_items}
use Rattle.xsk_log.specs.Extents.{IsWithin}
use Rattle.xsk_log.specs.declared.log.Piece.{Piece}
use Rattle.xsk_log.specs.declared.log.Row.{Row}

abbrev pub IsPieceIn : List ℕ → Piece → Type 0
IsPieceIn bytes piece = IsWithin bytes piece.payload

abbrev pub count_of : Row → ℕ
count_of row = row.items

-- no row has more items than a call may
abbrev pub IsShort : Row → Type 0
IsShort row = row.items ≤ most_items
