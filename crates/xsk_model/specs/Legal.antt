-- Which call a caller may make, by the configuration and the caller's own earlier calls and replies alone. That each
-- ring has one producer and one consumer, and that frames move with their entries, is af_xdp.rst's ("Rings", "UMEM");
-- the numbers and what may stand on which ring are this project's own.
use Rattle.std.specs.Prelude.{◌≡◌, ℕ, ◌^◌, ◌<◌, ◌≤◌, IsTrue, List, ◌∷◌, length, map, All, IfSome, flat_map}
use Rattle.std.specs.Option.{option_map}
use Rattle.xsk_umem.specs.Frame.{Frame}
use Rattle.xsk_umem.specs.Geometry.{Geometry, frame_of}
use Rattle.xsk_umem.specs.declared.batch.Item.{Item}
use Rattle.xsk_umem.specs.Limits.{most_items}
use Rattle.xsk_umem.specs.declared.batch.XdpDesc.{XdpDesc}
use Rattle.xsk_model.specs.Config.{Config, HasRing, callers_of}
use Rattle.xsk_model.specs.Packets.{IsLayout}
use Rattle.xsk_model.specs.Numbers.{times, numbers}
use Rattle.xsk_model.specs.Rings.{producer, consumer, port_of, queue_of}
use Rattle.xsk_model.specs.Marks.{HasMark, IsMarkNumber}
use Rattle.xsk_model.specs.Swaps.{MaySwap, MayFeed}
use Rattle.xsk_model.specs.Object.{submitted}
use Rattle.xsk_model.specs.Entry.{Told}
use Rattle.xsk_model.specs.Own.{had_of, room_of, held_of, is_from_fill, waiting, tx_work_of}
use Rattle.xsk_model.specs.declared.call.Ring.{Ring}
use Rattle.xsk_model.specs.declared.call.Ring.TheVariants.{Fill, Comp, Rx, Tx}
use Rattle.xsk_model.specs.declared.call.Call.{Call}
use Rattle.xsk_model.specs.declared.call.Call.TheVariants.{Reserve, Submit, Peek, Release, Swap, Look}

-- the ring or the mark of the call is one that the configuration has
abbrev pub IsKnown : Config → Call → Type 0
IsKnown c (Reserve r n) = HasRing c r
IsKnown c (Submit r items) = HasRing c r
IsKnown c (Peek r n) = HasRing c r
IsKnown c (Release r n) = HasRing c r
IsKnown c (Swap m value) = HasMark c m
IsKnown c (Look m) = HasMark c m

-- the caller is the one whose call it is; what a Swap sets may hang on the caller's own earlier calls and replies, and
-- every caller may look at every mark
abbrev pub HasRole : Config → List Told → ℕ → Call → Type 0
HasRole c mine who (Reserve r n) = who ≡ producer c r
HasRole c mine who (Submit r items) = who ≡ producer c r
HasRole c mine who (Peek r n) = who ≡ consumer c r
HasRole c mine who (Release r n) = who ≡ consumer c r
HasRole c mine who (Swap m value) = MaySwap c mine who m value
HasRole c mine who (Look m) = Unit {0}

-- 1 to 32 at once; a Submit fills places that were reserved, a Release gives back items that were peeked, and a mark is
-- set to a number that it may have
abbrev pub IsCounted : Config → List Told → Call → Type 0
IsCounted c mine (Reserve r n) = (1 ≤ n) × (n ≤ most_items)
IsCounted c mine (Submit r items) = (1 ≤ length items) × (length items ≤ most_items) × (length items ≤ room_of r mine)
IsCounted c mine (Peek r n) = (1 ≤ n) × (n ≤ most_items)
IsCounted c mine (Release r n) = (1 ≤ n) × (n ≤ most_items) × (n ≤ held_of r mine)
IsCounted c mine (Swap m value) = IsMarkNumber c m value
IsCounted c mine (Look m) = Unit {0}

-- The caller has the frames that it submits, each as often as it submits it. In a history a caller has each frame once
-- at most, so this says that it has them and that they are distinct.
abbrev pub HasFrames : List Told → Call → Type 0
HasFrames mine call = (n : ℕ) → times n (numbers (submitted call)) ≤ times n (had_of mine)

-- FILL and COMPLETION pass on addresses alone
abbrev pub IsPlainOn : Ring → XdpDesc → Type 0
IsPlainOn (Fill d) desc = (desc.len ≡ 0) × (desc.options ≡ 0)
IsPlainOn (Comp d) desc = (desc.len ≡ 0) × (desc.options ≡ 0)
IsPlainOn (Rx s) desc = Unit {0}
IsPlainOn (Tx s) desc = Unit {0}

-- an item that may stand in a ring: its numbers fit `struct xdp_desc`, and it has a frame exactly where its address lies
-- in the UMEM, that of this address, whole
pub record IsItemOn (g : Geometry) (r : Ring) (item : Item) : Type 0 where
  pub address : item.desc.addr < 2 ^ 64
  pub len : item.desc.len < 2 ^ 32
  pub options : item.desc.options < 2 ^ 32
  pub frame : option_map (λ (f : Frame). f.number) item.frame ≡ frame_of g item.desc.addr
  pub body : IfSome item.frame (λ (f : Frame). length f.bytes ≡ g.chunk)
  pub plain : IsPlainOn r item.desc

abbrev pub AreItems : Geometry → Call → Type 0
AreItems g (Reserve r n) = Unit {0}
AreItems g (Submit r items) = All (IsItemOn g r) items
AreItems g (Peek r n) = Unit {0}
AreItems g (Release r n) = Unit {0}
AreItems g (Swap m value) = Unit {0}
AreItems g (Look m) = Unit {0}

-- the items are one whole packet or more, each laid out, one after the other, in frames that came from FILL
pub record AreReceived (c : Config) (mine : List Told) (items : List Item) : Type 0 where
  pub layouts : List (List Item)
  pub joined : items ≡ flat_map (λ (layout : List Item). layout) layouts
  pub laid_out : All (λ (layout : List Item). (packet : List ℕ) × IsLayout c.geometry c.sg packet layout) layouts
  pub from_fill : (n : ℕ) → 1 ≤ times n (numbers items) → IsTrue (is_from_fill n mine)

-- the items give back the frames of the next Whole packet of a TX ring of that port and queue, in order and with their
-- addresses on TX
pub record AreCompleted (c : Config) (mine : List Told) (r : Ring) (items : List Item) : Type 0 where
  pub socket : ℕ
  pub tx : HasRing c (Tx socket)
  pub port : port_of c (Tx socket) ≡ port_of c r
  pub queue : queue_of c (Tx socket) ≡ queue_of c r
  pub packet : List Item
  pub later : List (List Item)
  pub next : waiting c (tx_work_of c socket mine) ≡ packet ∷ later
  pub frames : numbers items ≡ numbers packet
  pub addresses : map (λ (i : Item). i.desc.addr) items ≡ map (λ (i : Item). i.desc.addr) packet

-- what may stand on RX and on COMPLETION
abbrev pub ArePackets : Config → List Told → Call → Type 0
ArePackets c mine (Reserve r n) = Unit {0}
ArePackets c mine (Submit (Fill d) items) = Unit {0}
ArePackets c mine (Submit (Comp d) items) = AreCompleted c mine (Comp d) items
ArePackets c mine (Submit (Rx s) items) = AreReceived c mine items
ArePackets c mine (Submit (Tx s) items) = Unit {0}
ArePackets c mine (Peek r n) = Unit {0}
ArePackets c mine (Release r n) = Unit {0}
ArePackets c mine (Swap m value) = Unit {0}
ArePackets c mine (Look m) = Unit {0}

-- a call that a caller may make after its own earlier calls and replies
pub record IsLegal (c : Config) (mine : List Told) (who : ℕ) (call : Call) : Type 0 where
  pub caller : who < callers_of c
  pub known : IsKnown c call
  pub role : HasRole c mine who call
  pub counted : IsCounted c mine call
  pub frames : HasFrames mine call
  pub items : AreItems c.geometry call
  pub packets : ArePackets c mine call
  pub feeds : MayFeed c mine call
