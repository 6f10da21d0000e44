-- What a contract sees of the object on one thread, and which states of the object it shows. It keeps no frames of the
-- callers and no items that were peeked: of these it keeps their number. So it shows many states, and all of them give
-- the same replies.
use Rattle.std.specs.Prelude.{◌≡◌, ℕ, ◌≤◌, Option, Some, None, List, [], ◌∷◌, length, map, flat_map}
use Rattle.std.specs.List.{slice_index_or}
use Rattle.xsk_umem.specs.Frame.{Frame}
use Rattle.xsk_umem.specs.Limits.{most_items}
use Rattle.xsk_umem.specs.declared.batch.Item.{Item}
use Rattle.xsk_model.specs.Config.{Config, HasRing}
use Rattle.xsk_model.specs.Rings.{place}
use Rattle.xsk_model.specs.Marks.{HasMark}
use Rattle.xsk_model.specs.Object.{RingState, State}
use Rattle.xsk_model.specs.Entry.{Entry}
use Rattle.xsk_model.specs.declared.call.Ring.{Ring}
use Rattle.xsk_model.specs.declared.call.Call.{Call}
use Rattle.xsk_model.specs.declared.call.Call.TheVariants.{Reserve, Submit, Peek, Release, Swap, Look}

-- a ring: the items that are out, and how many places are held and how many reserved
pub record Part : Type 0 where
  pub out : List Item
  pub held : ℕ
  pub room : ℕ

-- the configuration, the rings and the marks by place, the log and the number of its entries, and the room that is left
-- for further entries and for their payload bytes
pub record Engine : Type 0 where
  pub config : Config
  pub rings : List Part
  pub marks : List ℕ
  pub log : List Entry
  pub calls : ℕ
  pub spare_entries : ℕ
  pub spare_bytes : ℕ

abbrev pub no_part : Part
no_part = record { out = []; held = 0; room = 0 }

-- what is kept of a ring
abbrev pub seen : RingState → Part
seen ring = record { out = ring.out; held = length ring.held; room = ring.room }

-- the engine shows a state: what it keeps of the rings and marks is what they are there
pub record Shows (engine : Engine) (s : State) : Type 0 where
  pub rings : map seen s.rings ≡ engine.rings
  pub marks : s.marks ≡ engine.marks

-- a ring among all
abbrev pub part_in : Config → List Part → Ring → Part
part_in c rings r = slice_index_or rings (place c r) no_part

-- A call that is made here as the object makes it, in numbers: its ring or mark exists, it takes no more from its ring
-- than is there, and it peeks 1 to 32 items. Each legal call is one.
abbrev pub CanPerform : Config → List Part → Call → Type 0
CanPerform c rings (Reserve r n) = HasRing c r
CanPerform c rings (Submit r items) = HasRing c r × (length items ≤ (part_in c rings r).room)
CanPerform c rings (Peek r n) = HasRing c r × (1 ≤ n) × (n ≤ most_items)
CanPerform c rings (Release r n) = HasRing c r × (n ≤ (part_in c rings r).held)
CanPerform c rings (Swap m value) = HasMark c m
CanPerform c rings (Look m) = HasMark c m

-- the frames that stand in rings, ring by ring, in order
abbrev pub frames_of : Option Frame → List Frame
frames_of None = []
frames_of (Some frame) = frame ∷ []

abbrev pub frames_in : List Item → List Frame
frames_in items = flat_map (λ (item : Item). frames_of item.frame) items

abbrev pub frames_out : List Part → List Frame
frames_out rings = flat_map (λ (ring : Part). frames_in ring.out) rings
