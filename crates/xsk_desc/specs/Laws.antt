-- Laws of the cut of a packet and of the packets of a list of items. Each is the contract of a function of its own.
use Rattle.std.specs.Prelude.{◌≡◌, ℕ, ◌≤◌, Bool, is_none, List, [], ◌∷◌, ◌++◌, length, All, flat_map}
use Rattle.xsk_umem.specs.Geometry.{Geometry, IsGeometry}
use Rattle.xsk_umem.specs.declared.batch.Item.{Item}
use Rattle.xsk_umem.specs.declared.batch.XdpDesc.{XdpDesc}
use Rattle.xsk_model.specs.Descriptor.{is_valid}
use Rattle.xsk_model.specs.Limits.{most_fragments}
use Rattle.xsk_model.specs.Packets.{IsCut, IsLayout, Packet, whole, packets, rest, items_of, bytes_of, IsPacket, IsUnfinished}
use Rattle.xsk_desc.specs.Fault.{fault_of}

-- a descriptor is valid exactly where it has no fault
abbrev pub ValidHasNoFault : Type 0
ValidHasNoFault = (g : Geometry) (sg : Bool) (desc : XdpDesc) → is_none (fault_of g sg desc) ≡ is_valid g sg desc

-- a packet with a byte has one cut and no other
abbrev pub HasOneCut : Type 0
HasOneCut = (size : ℕ) (packet : List ℕ) → 1 ≤ size → 1 ≤ length packet
    → (pieces : List (List ℕ)) × IsCut size packet pieces × ((others : List (List ℕ)) → IsCut size packet others → others ≡ pieces)

-- a list cut at any place has the packets of the first part, and then those of its rest with the second part
abbrev pub CutsAnywhere : Type 0
CutsAnywhere = (g : Geometry) (sg : Bool) (first second : List Item)
    → (packets g sg (first ++ second) ≡ packets g sg first ++ packets g sg (rest g sg first ++ second))
    × (rest g sg (first ++ second) ≡ rest g sg (rest g sg first ++ second))

-- each item stands in one packet, whole or bad, or in the rest, in the order of the list
abbrev pub KeepsEachItem : Type 0
KeepsEachItem = (g : Geometry) (sg : Bool) (items : List Item) → flat_map items_of (packets g sg items) ++ rest g sg items ≡ items

-- each packet is whole or bad as its kind says, and the rest is an unfinished packet
abbrev pub AreWholeOrBad : Type 0
AreWholeOrBad = (g : Geometry) (sg : Bool) (items : List Item) → All (IsPacket g sg) (packets g sg items) × IsUnfinished g sg (rest g sg items)

-- no other list of such packets and no other such rest has these items
abbrev pub HasNoOtherPackets : Type 0
HasNoOtherPackets = (g : Geometry) (sg : Bool) (made : List Packet) (kept : List Item) → All (IsPacket g sg) made → IsUnfinished g sg kept
    → (packets g sg (flat_map items_of made ++ kept) ≡ made) × (rest g sg (flat_map items_of made ++ kept) ≡ kept)

-- the layout of a packet in at most 18 frames has one packet, which is whole and has its bytes
abbrev pub LayoutIsPacket : Type 0
LayoutIsPacket = (g : Geometry) (sg : Bool) (packet : List ℕ) (items : List Item) → IsGeometry g → IsLayout g sg packet items → length items ≤ most_fragments
    → (packets g sg items ≡ whole items ∷ []) × (rest g sg items ≡ []) × (bytes_of g sg items ≡ packet)
