-- That a ring's items have their payloads among the log's bytes and their pieces among its pieces, so that a Peek copies none
-- and looks for none.
use Rattle.std.specs.Prelude.{◌≡◌, ℕ, Option, None, Some, List, All, slice_get}
use Rattle.xsk_model.specs.Config.{Config}
use Rattle.xsk_model.specs.Descriptor.{payload}
use Rattle.xsk_log.specs.Notes.{Notes}
use Rattle.xsk_log.specs.Extents.{at_extent, IsWithin}
use Rattle.xsk_plain.specs.Stores.{piece_of}
use Rattle.xsk_log.specs.declared.log.Piece.{Piece}
use Rattle.xsk_plain.specs.declared.ring_store.RingStore.{RingStore}
use Rattle.xsk_plain.specs.declared.ring_store.Stored.{Stored}

-- the piece stands at the place, where there is one
abbrev pub IsNotedAt : List Piece → Piece → Option ℕ → Type 0
IsNotedAt values piece None = Unit {0}
IsNotedAt values piece (Some place) = slice_get values place ≡ Some piece

-- the item's extent shows its payload, and its piece stands at its place
pub record IsKept (c : Config) (notes : Notes) (stored : Stored) : Type 0 where
  pub within : IsWithin notes.bytes stored.payload
  pub shows : at_extent notes.bytes stored.payload ≡ payload c.geometry c.sg stored.item
  pub noted : IsNotedAt notes.values (piece_of stored) stored.place

abbrev pub AreKept : Config → Notes → RingStore → Type 0
AreKept c notes store = All (IsKept c notes) store.out.items

abbrev pub AllKept : Config → Notes → List RingStore → Type 0
AllKept c notes stores = All (AreKept c notes) stores

-- the same without the payloads: the extents lie within the bytes
pub record IsHeld (notes : Notes) (stored : Stored) : Type 0 where
  pub within : IsWithin notes.bytes stored.payload
  pub noted : IsNotedAt notes.values (piece_of stored) stored.place

abbrev pub AreHeld : Notes → RingStore → Type 0
AreHeld notes store = All (IsHeld notes) store.out.items
