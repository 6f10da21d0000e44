-- Packets of one or more frames (af_xdp.rst, "Multi-Buffer Support"): how a packet is cut and laid into frames, and
-- which packets a list of descriptors has. An invalid descriptor makes all descriptors of its packet invalid, and the
-- next descriptor starts a new packet, as the text has it from Linux 6.6 on; newer texts are named in docs/KERNEL.md.
-- The text advises at most 18 frames a packet; that more are bad in each case is this project's own.
use Rattle.std.specs.Prelude.{◌≡◌, ℕ, ◌+◌, ◌<◌, ◌≤◌, Bool, IsTrue, not, ◌==◌, nat_le, if◌then◌else◌, ◌⊎◌, IsFalse, All, Option, Some, None, is_some, option_to_list, List, [], ◌∷◌, ◌++◌, length, take, drop, flat_map}
use Rattle.std.specs.List.{concat}
use Rattle.xsk_umem.specs.Geometry.{Geometry, payload_of, data_of}
use Rattle.xsk_umem.specs.Frame.{Frame}
use Rattle.xsk_umem.specs.Limits.{reserved_bytes}
use Rattle.xsk_umem.specs.declared.batch.Item.{Item}
use Rattle.xsk_model.specs.Limits.{most_fragments}
use Rattle.xsk_model.specs.Descriptor.{is_valid, payload}

-- ---- a packet in frames

-- the lengths of the pieces of a cut: all but the last have `size` bytes, the last has 1 to as many
abbrev pub HavePieceLengths : ℕ → List (List ℕ) → Type 0
HavePieceLengths size [] = ⊥
HavePieceLengths size (last ∷ []) = (1 ≤ length last) × (length last ≤ size)
HavePieceLengths size (piece ∷ next ∷ pieces) = (length piece ≡ size) × HavePieceLengths size (next ∷ pieces)

-- the pieces are the cut of the packet
pub record IsCut (size : ℕ) (packet : List ℕ) (pieces : List (List ℕ)) : Type 0 where
  pub joined : concat pieces ≡ packet
  pub lengths : HavePieceLengths size pieces

-- the options of the item of a piece: the continuation bit, where pieces follow
abbrev pub options_before : List (List ℕ) → ℕ
options_before [] = 0
options_before (piece ∷ pieces) = 1

-- the item has a frame of the UMEM, names the data of that frame, and the data begins with the piece
pub record HoldsPiece (g : Geometry) (item : Item) (piece : List ℕ) (options : ℕ) : Type 0 where
  pub frame : Frame
  pub is : item ≡ record { frame = Some frame; desc = record { addr = data_of g frame.number; len = length piece; options = options } }
  pub in_umem : frame.number < g.frames
  pub bytes : take (length piece) (drop (g.headroom + reserved_bytes) frame.bytes) ≡ piece

-- each item holds its piece
abbrev pub HoldPieces : Geometry → List Item → List (List ℕ) → Type 0
HoldPieces g [] [] = Unit {0}
HoldPieces g [] (piece ∷ pieces) = ⊥
HoldPieces g (item ∷ items) [] = ⊥
HoldPieces g (item ∷ items) (piece ∷ pieces) = HoldsPiece g item piece (options_before pieces) × HoldPieces g items pieces

-- The items are the layout of the packet: one for each piece of its cut, and without XDP_USE_SG one in all. That no
-- frame stands twice in it follows where its frames are had by one caller.
pub record IsLayout (g : Geometry) (sg : Bool) (packet : List ℕ) (items : List Item) : Type 0 where
  pub pieces : List (List ℕ)
  pub cut : IsCut (payload_of g) packet pieces
  pub held : HoldPieces g items pieces
  pub single : IsTrue sg ⊎ (length items ≡ 1)

-- ---- the packets of a list of items

-- a packet of a list of items: whole, or bad with all items of its group
pub data Packet : Type 0 where
  whole : List Item → Packet
  bad : List Item → Packet

-- the packet rule: what the next item ends, where `group` are the items before it that belong to no packet yet
abbrev pub ended_by : Geometry → Bool → List Item → Item → Option Packet
ended_by g sg group item =
    if nat_le most_fragments (length group) then Some (bad (group ++ item ∷ []))
    else if not (is_valid g sg item.desc) then Some (bad (group ++ item ∷ []))
    else if item.desc.options == 1 then None
    else Some (whole (group ++ item ∷ []))

-- the group after the item: it grows, and is empty after each end
abbrev pub group_after : Geometry → Bool → List Item → Item → List Item
group_after g sg group item = if is_some (ended_by g sg group item) then [] else group ++ item ∷ []

-- the packets of a list of items that is read after a group, and the group that is left at its end
abbrev pub packets_from : Geometry → Bool → List Item → List Item → List Packet
packets_from g sg group [] = []
packets_from g sg group (item ∷ items) = option_to_list (ended_by g sg group item) ++ packets_from g sg (group_after g sg group item) items

abbrev pub rest_from : Geometry → Bool → List Item → List Item → List Item
rest_from g sg group [] = group
rest_from g sg group (item ∷ items) = rest_from g sg (group_after g sg group item) items

-- the packets of a whole list of items, and its unfinished rest
abbrev pub packets : Geometry → Bool → List Item → List Packet
packets g sg items = packets_from g sg [] items

abbrev pub rest : Geometry → Bool → List Item → List Item
rest g sg items = rest_from g sg [] items

-- the items of a packet
abbrev pub items_of : Packet → List Item
items_of (whole items) = items
items_of (bad items) = items

-- the items of the whole packets, each packet a list, in order
abbrev pub whole_packets : List Packet → List (List Item)
whole_packets [] = []
whole_packets (whole items ∷ packets) = items ∷ whole_packets packets
whole_packets (bad items ∷ packets) = whole_packets packets

-- how many items stand in bad groups
abbrev pub bad_items : List Packet → ℕ
bad_items [] = 0
bad_items (whole items ∷ packets) = bad_items packets
bad_items (bad items ∷ packets) = length items + bad_items packets

-- the bytes of a packet: the payloads of its items, one after the other
abbrev pub bytes_of : Geometry → Bool → List Item → List ℕ
bytes_of g sg items = flat_map (payload g sg) items

-- ---- what the packets of a list are made of

-- a valid item whose packet goes on
pub record Continues (g : Geometry) (sg : Bool) (item : Item) : Type 0 where
  pub valid : IsTrue (is_valid g sg item.desc)
  pub bit : item.desc.options ≡ 1

-- a packet that isn't finished
pub record IsUnfinished (g : Geometry) (sg : Bool) (items : List Item) : Type 0 where
  pub few : length items ≤ most_fragments
  pub continued : All (Continues g sg) items

-- a whole packet: 1 to 18 valid items, of which the last alone lacks the continuation bit
pub record IsWhole (g : Geometry) (sg : Bool) (items : List Item) : Type 0 where
  pub front : List Item
  pub last : Item
  pub is : items ≡ front ++ last ∷ []
  pub few : length items ≤ most_fragments
  pub continued : All (Continues g sg) front
  pub valid : IsTrue (is_valid g sg last.desc)
  pub bit : last.desc.options ≡ 0

-- a bad group: a packet that isn't finished, and one more item, which is invalid or the 19th
pub record IsBad (g : Geometry) (sg : Bool) (items : List Item) : Type 0 where
  pub front : List Item
  pub last : Item
  pub is : items ≡ front ++ last ∷ []
  pub unfinished : IsUnfinished g sg front
  pub broken : IsFalse (is_valid g sg last.desc) ⊎ (length items ≡ 19)

abbrev pub IsPacket : Geometry → Bool → Packet → Type 0
IsPacket g sg (whole items) = IsWhole g sg items
IsPacket g sg (bad items) = IsBad g sg items
