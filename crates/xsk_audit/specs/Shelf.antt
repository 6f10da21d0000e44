-- The frames that callers have, by their numbers.
use Rattle.std.specs.Prelude.{◌≡◌, ℕ, ◌+◌, ◌<◌, Option, None, Some, List, [], ◌∷◌, ◌++◌, length, map, All, IfSome}
use Rattle.std.specs.List.{slice_index_or, slice_set}
use Rattle.std.specs.Option.{option_map}
use Rattle.xsk_umem.specs.Frame.{Frame}
use Rattle.xsk_umem.specs.Geometry.{Geometry, frame_of}
use Rattle.xsk_umem.specs.declared.batch.Item.{Item}
use Rattle.xsk_umem.specs.declared.batch.XdpDesc.{XdpDesc}
use Rattle.xsk_model.specs.Numbers.{times, numbers}

abbrev pub Places : Type 0
Places = List (Option Frame)

-- what lies in a place
abbrev pub frame_at : Places → ℕ → Option Frame
frame_at places n = slice_index_or places n None

abbrev pub one : Option Frame → ℕ
one None = 0
one (Some frame) = 1

-- 1 where a frame lies there, else 0
abbrev pub has : Places → ℕ → ℕ
has places n = one (frame_at places n)

-- each frame lies in the place of its number, whole
abbrev pub AreInPlace : Geometry → Places → Type 0
AreInPlace g places = (n : ℕ) → IfSome (frame_at places n) (λ (f : Frame). (f.number ≡ n) × (length f.bytes ≡ g.chunk))

-- a frame in the place of its number
abbrev pub with_frame : Places → Option Frame → Places
with_frame places None = places
with_frame places (Some frame) = slice_set places frame.number (Some frame)

-- the frames of items in their places
abbrev pub with_items : Places → List Item → Places
with_items places [] = places
with_items places (item ∷ items) = with_items (with_frame places item.frame) items

-- the frame that an address names is gone, if it names one
abbrev pub without_frame : Places → Option ℕ → Places
without_frame places None = places
without_frame places (Some n) = slice_set places n None

-- the numbers of the frames that descriptors name
abbrev pub listed : Option ℕ → List ℕ
listed None = []
listed (Some n) = n ∷ []

abbrev pub needed : Geometry → List XdpDesc → List ℕ
needed g [] = []
needed g (desc ∷ descs) = listed (frame_of g desc.addr) ++ needed g descs

abbrev pub descs_of : List Item → List XdpDesc
descs_of items = map (λ (i : Item). i.desc) items

-- an item has the frame of its address, whole
abbrev pub HasItsFrame : Geometry → Item → Type 0
HasItsFrame g item = (option_map (λ (f : Frame). f.number) item.frame ≡ frame_of g item.desc.addr) × IfSome item.frame (λ (f : Frame). length f.bytes ≡ g.chunk)

-- The items of these descriptors, with frames that lay in their places, and what is left there.
pub record IsLent (g : Geometry) (old new : Places) (descs : List XdpDesc) (items : List Item) : Type 0 where
  pub descs_are : descs_of items ≡ descs
  pub frames : All (HasItsFrame g) items
  pub left : (n : ℕ) → has new n + times n (numbers items) ≡ has old n

-- a frame that the descriptors name isn't there, or is named more often than it is there
abbrev pub Lacks : Geometry → Places → List XdpDesc → Type 0
Lacks g old descs = (n : ℕ) × (has old n < times n (needed g descs))
