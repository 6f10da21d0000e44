-- What a ring's store shows, and what its steps change.
use Rattle.std.specs.Prelude.{◌≡◌, ℕ, None, List, [], map}
use Rattle.xsk_umem.specs.declared.batch.Item.{Item}
use Rattle.std.specs.Option.{option_map}
use Rattle.xsk_umem.specs.Frame.{Frame}
use Rattle.xsk_umem.specs.Geometry.{Geometry}
use Rattle.xsk_model.specs.Opening.{home_item}
use Rattle.xsk_plain.specs.Engine.{Part}
use Rattle.xsk_log.specs.declared.log.Piece.{Piece}
use Rattle.xsk_plain.specs.declared.ring_store.RingStore.{RingStore}
use Rattle.xsk_plain.specs.declared.ring_store.Stored.{Stored}

abbrev pub stored_item_of : Stored → Item
stored_item_of stored = stored.item

abbrev pub part_of : RingStore → Part
part_of store = record { out = map stored_item_of store.out.items; held = store.held; room = store.room }

abbrev pub size_in : RingStore → ℕ
size_in store = store.size

abbrev pub parts_of : List RingStore → List Part
parts_of stores = map part_of stores

abbrev pub sizes_in : List RingStore → List ℕ
sizes_in stores = map size_in stores

-- what the log keeps of an item
abbrev pub piece_of : Stored → Piece
piece_of stored = record { frame = option_map (λ (f : Frame). f.number) stored.item.frame; desc = stored.item.desc; payload = stored.payload }

-- an item of which the log has nothing
abbrev pub unnoted : Item → Stored
unnoted item = record { item = item; payload = record { start = 0; len = 0 }; place = None }

-- the item of a frame at the opening
abbrev pub home_stored : Geometry → Frame → Stored
home_stored g frame = unnoted (home_item g frame)

-- a store with nothing in it
pub record IsBlank (store : RingStore) : Type 0 where
  pub out : store.out.items ≡ []
  pub held : store.held ≡ 0
  pub room : store.room ≡ 0

-- what a store has: its items, held and reserved places, and its size
pub record Has (store : RingStore) (items : List Stored) (peeked reserved entries : ℕ) : Type 0 where
  pub out : store.out.items ≡ items
  pub held : store.held ≡ peeked
  pub room : store.room ≡ reserved
  pub size : store.size ≡ entries
