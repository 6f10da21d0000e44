-- What the log keeps for the items of rings: the bytes of payloads, and the pieces by their places.
use Rattle.std.specs.Prelude.{ℕ, List}
use Rattle.xsk_log.specs.declared.log.Piece.{Piece}
use Rattle.xsk_log.specs.Repeats.{KeepsValues}
use Rattle.xsk_log.specs.Extents.{Grows}

pub record Notes : Type 0 where
  pub bytes : List ℕ
  pub values : List Piece

-- others may have come behind those that there were
pub record NotesGrow (old new : Notes) : Type 0 where
  pub bytes : Grows old.bytes new.bytes
  pub values : KeepsValues old.values new.values
