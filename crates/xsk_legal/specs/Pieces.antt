-- What is asked of the items of a Submit, one by one, in the words of what a standing keeps.
use Rattle.std.specs.Prelude.{◌≡◌, ℕ, ◌≤◌, ◌⊎◌, Bool, true, false, IsTrue, IsFalse, is_some, if◌then◌else◌, Option, Some, None, List, [], ◌∷◌, length, All}
use Rattle.std.specs.List.{slice_index_or}
use Rattle.xsk_umem.specs.Frame.{Frame}
use Rattle.xsk_umem.specs.Geometry.{Geometry, payload_of}
use Rattle.xsk_umem.specs.declared.batch.Item.{Item}
use Rattle.xsk_model.specs.Config.{Config, HasRing}
use Rattle.xsk_model.specs.Rings.{place, port_of, queue_of}
use Rattle.xsk_model.specs.Numbers.{times, numbers}
use Rattle.xsk_model.specs.Legal.{IsItemOn}
use Rattle.xsk_umem.specs.Limits.{most_items}
use Rattle.xsk_model.specs.declared.call.Ring.{Ring}
use Rattle.xsk_model.specs.declared.call.Ring.TheVariants.{Fill, Comp, Rx, Tx}
use Rattle.xsk_model.specs.OtherWords.{NamesItsData}
use Rattle.xsk_legal.specs.Noted.{Noted}
use Rattle.xsk_legal.specs.Queue.{IsPacket}
use Rattle.xsk_legal.specs.Standing.{places_at, queue_at}

-- ---- frames

-- how often the caller has a frame
abbrev pub has : List (Option Ring) → ℕ → ℕ
has sources n = if is_some (slice_index_or sources n None) then 1 else 0

-- the ring from which the caller last got the item's frame, if it has it
abbrev pub frame_source : List (Option Ring) → Option Frame → Option Ring
frame_source sources None = None
frame_source sources (Some frame) = slice_index_or sources frame.number None

abbrev pub item_source : List (Option Ring) → Item → Option Ring
item_source sources item = frame_source sources item.frame

abbrev pub first_source : List (Option Ring) → List Item → Option Ring
first_source sources [] = None
first_source sources (item ∷ items) = item_source sources item

abbrev pub IsFill : Option Ring → Type 0
IsFill None = ⊥
IsFill (Some (Fill d)) = Unit {0}
IsFill (Some (Comp d)) = ⊥
IsFill (Some (Rx s)) = ⊥
IsFill (Some (Tx s)) = ⊥

-- ---- layouts

-- a piece of full length, behind which the packet goes on
pub record IsFull (g : Geometry) (sg : Bool) (item : Item) : Type 0 where
  pub allowed : IsTrue sg
  pub len : item.desc.len ≡ payload_of g
  pub options : item.desc.options ≡ 1

-- the last piece of a packet
pub record IsEnd (g : Geometry) (item : Item) : Type 0 where
  pub some : 1 ≤ item.desc.len
  pub few : item.desc.len ≤ payload_of g
  pub options : item.desc.options ≡ 0

-- a piece of a layout; the last item is the last of its packet
abbrev pub IsPiece : Geometry → Bool → Bool → Item → Type 0
IsPiece g sg last item = NamesItsData g item × ((IsFalse last × IsFull g sg item) ⊎ IsEnd g item)

-- each item is a piece
abbrev pub ArePieces : Geometry → Bool → List Item → Type 0
ArePieces g sg [] = Unit {0}
ArePieces g sg (item ∷ []) = IsPiece g sg true item
ArePieces g sg (item ∷ next ∷ items) = IsPiece g sg false item × ArePieces g sg (next ∷ items)

-- ---- completed packets

pub record GivesBack (c : Config) (kept : Noted) (d : ℕ) (items : List Item) : Type 0 where
  pub socket : ℕ
  pub source : first_source kept.sources items ≡ Some (Tx socket)
  pub tx : HasRing c (Tx socket)
  pub port : port_of c (Tx socket) ≡ port_of c (Comp d)
  pub queue : queue_of c (Tx socket) ≡ queue_of c (Comp d)
  pub packet : IsPacket (queue_at kept socket).descs items

-- ---- all that is asked of a Submit on a ring that is the caller's

abbrev pub MayPlace : Config → Noted → Ring → List Item → Type 0
MayPlace c kept (Fill d) items = Unit {0}
MayPlace c kept (Comp d) items = GivesBack c kept d items
MayPlace c kept (Rx s) items = All (λ (item : Item). IsFill (item_source kept.sources item)) items × ArePieces c.geometry c.sg items
MayPlace c kept (Tx s) items = Unit {0}

pub record MaySubmit (c : Config) (kept : Noted) (r : Ring) (items : List Item) : Type 0 where
  pub some : 1 ≤ length items
  pub few : length items ≤ most_items
  pub room : length items ≤ (places_at kept (place c r)).room
  pub lawful : All (IsItemOn c.geometry r) items
  pub frames : (n : ℕ) → times n (numbers items) ≤ has kept.sources n
  pub packets : MayPlace c kept r items
