-- What each step tells its caller.
use Rattle.std.specs.Prelude.{◌≡◌, ℕ, ◌+◌, ◌^◌, ◌<◌, ◌≤◌, List, [], ◌∷◌, ◌++◌, length, min, Option, Some, None}
use Rattle.atomic_table.specs.Table.{Me, Step, rest}
use Rattle.xsk_umem.specs.Frame.{Frame}
use Rattle.xsk_umem.specs.declared.batch.Item.{Item}
use Rattle.xsk_umem.specs.Batch.{blank}
use Rattle.xsk_model.specs.Config.{HasRing, size_of}
use Rattle.xsk_model.specs.Rings as rings
use Rattle.xsk_model.specs.Object.{reply_at, reserve_reply}
use Rattle.xsk_model.specs.Entry.{Entry, own, with_told}
use Rattle.xsk_model.specs.Own.{granted, given_of, released_of, room_of, held_of}
use Rattle.xsk_model.specs.History.{IsHistory, state_after}
use Rattle.xsk_model.specs.Legal.{IsItemOn, IsLegal}
use Rattle.xsk_model.specs.declared.call.Ring.{Ring}
use Rattle.xsk_model.specs.declared.call.Call.{Call}
use Rattle.xsk_model.specs.declared.call.Ring.TheVariants.{Fill}
use Rattle.xsk_model.specs.declared.call.Mark.{Mark}
use Rattle.xsk_model.specs.declared.call.Mark.TheVariants.{Kick}
use Rattle.xsk_model.specs.declared.call.Call.TheVariants.{Reserve, Submit, Peek, Release, Swap, Look}
use Rattle.xsk_model.specs.declared.call.Reply.{Reply}
use Rattle.xsk_model.specs.declared.call.Reply.TheVariants.{Granted, Submitted, Items, Empty, Released, Old}
use Rattle.xsk_table.specs.Words.{used_of, second_word}
use Rattle.xsk_table.specs.View.{Basis, Flight, idle, placing, writing, taking, fetching, View}
use Rattle.xsk_table.specs.Rule.{wrapped, opened, given, released, lying, HasAll}
use Rattle.xsk_table.specs.Known.{free_after, out_after}

-- a seat's view, and the slots that it has taken
abbrev pub Seated : Type 0
Seated = Me (Option Frame) View

-- what a step is for: the table's basis, the caller, its ring or its mark, a number and an item
pub record Purpose : Type 0 where
  pub setup : Basis
  pub who : ℕ
  pub ring : Ring
  pub mark : Mark
  pub count : ℕ
  pub item : Item

abbrev pub ask_for : Basis → ℕ → Ring → ℕ → Purpose
ask_for k who r n = record { setup = k; who = who; ring = r; mark = Kick 0; count = n; item = blank }

abbrev pub ask_item : Basis → ℕ → Ring → Item → Purpose
ask_item k who r x = record { setup = k; who = who; ring = r; mark = Kick 0; count = 0; item = x }

abbrev pub ask_mark : Basis → ℕ → Mark → ℕ → Purpose
ask_mark k who m value = record { setup = k; who = who; ring = Fill 0; mark = m; count = value; item = blank }

abbrev pub entry : ℕ → Call → Reply → Entry
entry who call reply = record { who = who; call = call; reply = reply }

-- ---- what a call tells

-- The call with its reply stands at the end of a legal history, which begins with all that was seen before. The reply is
-- the object's at that place. Of the caller's entries the history has those that were seen and this one.
pub record Extends (k : Basis) (who : ℕ) (call : Call) (reply : Reply) (v w : View) : Type 0 where
  pub between : List Entry
  pub seen : w.seen ≡ (v.seen ++ between) ++ entry who call reply ∷ []
  pub legal : IsHistory k.config k.frames w.seen
  pub mine : own who w.seen ≡ with_told (own who v.seen) call reply
  pub given : reply ≡ reply_at k.config (state_after k.config k.frames (v.seen ++ between)) call
  pub callers : w.callers ≡ v.callers
  pub others : w.others ≡ v.others
  pub setup : w.setup ≡ v.setup

-- a seat of one caller, whose next call is legal
pub record IsReady (a : Purpose) (call : Call) (v : View) : Type 0 where
  pub one : v.callers ≡ a.who ∷ []
  pub alone : v.others ≡ []
  pub legal : IsLegal a.setup.config (own a.who v.seen) a.who call

-- how many a producer gave and has reserved, and how many a consumer released and holds, from the opening on
abbrev pub filled : Purpose → View → ℕ
filled a v = opened a.setup a.ring + given_of a.ring (own a.who v.seen) + room_of a.ring (own a.who v.seen)

abbrev pub emptied : Purpose → View → ℕ
emptied a v = released_of a.ring (own a.who v.seen) + held_of a.ring (own a.who v.seen)

-- the look of a Reserve: the consumer word tells how many places are free
pub record Reserved (a : Purpose) (m : Seated) (found : ℕ) (m' : Seated) : Type 0 where
  pub free : ℕ
  pub extends : Extends a.setup a.who (Reserve a.ring a.count) (reserve_reply a.count free) m.0 m'.0
  pub left : free ≡ free_after a.setup m'.0.seen a.ring + granted (Reserve a.ring a.count) (reserve_reply a.count free)
  pub found_is : free + used_of (wrapped a.setup (filled a m.0)) found ≡ size_of a.setup.config a.ring
  pub small : found < 2 ^ 32
  pub slots : m'.1 ≡ m.1
  pub flight : m'.0.flight ≡ idle

abbrev pub reserves : Purpose → Step (Option Frame) → Seated → ℕ → Seated → Type 0
reserves a st m found m' = Reserved a m found m'

-- a step that ends a call whose reply is known before
pub record Ended (a : Purpose) (call : Call) (reply : Reply) (m m' : Seated) : Type 0 where
  pub extends : Extends a.setup a.who call reply m.0 m'.0
  pub slots : m'.1 ≡ m.1
  pub flight : m'.0.flight ≡ idle

abbrev pub releases : Purpose → Step (Option Frame) → Seated → ℕ → Seated → Type 0
releases a st m found m' = Ended a (Release a.ring a.count) Released m m'

abbrev pub submits : Purpose → Step (Option Frame) → Seated → ℕ → Seated → Type 0
submits a st m found m' = (items : List Item) → m.0.flight ≡ placing a.ring items → Ended a (Submit a.ring items) Submitted m m'

-- a Peek whose items aren't all fetched
abbrev pub still : Ring → List Item → Flight
still r [] = idle
still r (x ∷ xs) = taking r (x ∷ xs)

abbrev pub items_reply : List Item → Reply
items_reply [] = Empty
items_reply (x ∷ xs) = Items (x ∷ xs)

-- the look of a Peek: the producer word tells how many items are out
pub record Peeked (a : Purpose) (m : Seated) (found : ℕ) (m' : Seated) : Type 0 where
  pub items : List Item
  pub extends : Extends a.setup a.who (Peek a.ring a.count) (items_reply items) m.0 m'.0
  pub count : length items ≡ min a.count (used_of found (wrapped a.setup (emptied a m.0)))
  pub left : used_of found (wrapped a.setup (emptied a m.0)) ≡ length items + out_after a.setup m'.0.seen a.ring
  pub small : found < 2 ^ 32
  pub slots : m'.1 ≡ m.1
  pub flight : m'.0.flight ≡ still a.ring items

abbrev pub peeks : Purpose → Step (Option Frame) → Seated → ℕ → Seated → Type 0
peeks a st m found m' = Peeked a m found m'

-- ---- calls that what is known covers

-- by what a producer has seen there is room for so many more
abbrev pub HasRoom : Purpose → View → Type 0
HasRoom a v = filled a v + a.count ≤ released a.setup a.ring v.seen + size_of a.setup.config a.ring

-- by what a consumer has seen so many items are out
abbrev pub HasItems : Purpose → View → Type 0
HasItems a v = emptied a v + a.count ≤ given a.setup a.ring v.seen

abbrev pub grants : Purpose → Step (Option Frame) → Seated → ℕ → Seated → Type 0
grants a st m found m' = Ended a (Reserve a.ring a.count) Granted m m'

-- a Peek that gets all that it asks for
pub record PeekedAll (a : Purpose) (m m' : Seated) : Type 0 where
  pub items : List Item
  pub extends : Extends a.setup a.who (Peek a.ring a.count) (items_reply items) m.0 m'.0
  pub count : length items ≡ a.count
  pub slots : m'.1 ≡ m.1
  pub flight : m'.0.flight ≡ still a.ring items

abbrev pub gives : Purpose → Step (Option Frame) → Seated → ℕ → Seated → Type 0
gives a st m found m' = PeekedAll a m m'

-- ---- marks

-- a step that ends a call on a mark, which replies with the number found
pub record Answered (a : Purpose) (call : Call) (m : Seated) (found : ℕ) (m' : Seated) : Type 0 where
  pub extends : Extends a.setup a.who call (Old found) m.0 m'.0
  pub slots : m'.1 ≡ m.1
  pub flight : m'.0.flight ≡ idle

abbrev pub swaps : Purpose → Step (Option Frame) → Seated → ℕ → Seated → Type 0
swaps a st m found m' = Answered a (Swap a.mark a.count) m found m'

abbrev pub looks : Purpose → Step (Option Frame) → Seated → ℕ → Seated → Type 0
looks a st m found m' = Answered a (Look a.mark) m found m'

-- ---- how frames move

-- no call is in flight, or a Submit on this ring
abbrev pub IsPlacing : Ring → Flight → Type 0
IsPlacing r idle = Unit {0}
IsPlacing r (placing s items) = s ≡ r
IsPlacing r (writing s items x) = ⊥
IsPlacing r (taking s items) = ⊥
IsPlacing r (fetching s x left) = ⊥

-- an item may be placed behind those that a Submit in flight has placed: there is room, and the caller has the frames
pub record CanPlace (a : Purpose) (v : View) : Type 0 where
  pub one : v.callers ≡ a.who ∷ []
  pub alone : v.others ≡ []
  pub ring : HasRing a.setup.config a.ring
  pub role : a.who ≡ rings.producer a.setup.config a.ring
  pub lawful : IsItemOn a.setup.config.geometry a.ring a.item
  pub room : length (lying v.flight) + 1 ≤ room_of a.ring (own a.who v.seen)
  pub has : HasAll (lying v.flight ++ a.item ∷ []) (own a.who v.seen)

-- the slots of a seat with that of an item's frame before them, with what lies in it
abbrev pub with_slot : Option Frame → Option Frame → List (ℕ × Option Frame) → List (ℕ × Option Frame)
with_slot None value slots = slots
with_slot (Some f) value slots = (f.number, value) ∷ slots

abbrev pub without_slot : Option Frame → List (ℕ × Option Frame) → List (ℕ × Option Frame)
without_slot None slots = slots
without_slot (Some f) slots = rest slots

-- the slot of an item's frame is the one that was taken last, with this in it
abbrev pub IsFirst : Option Frame → Option Frame → List (ℕ × Option Frame) → Type 0
IsFirst None value slots = Unit {0}
IsFirst (Some f) value slots = slots ≡ (f.number, value) ∷ rest slots

-- the empty slot of an item's frame is taken
pub record Lifted (a : Purpose) (m m' : Seated) : Type 0 where
  pub view : m'.0 ≡ record m.0 { flight = writing a.ring (lying m.0.flight) a.item }
  pub slots : m'.1 ≡ with_slot a.item.frame None m.1

abbrev pub lifts : Purpose → Step (Option Frame) → Seated → ℕ → Seated → Type 0
lifts a st m found m' = Lifted a m m'

-- it goes home with the frame in it
pub record Placed (a : Purpose) (m m' : Seated) : Type 0 where
  pub view : m'.0 ≡ record m.0 { flight = placing a.ring (lying m.0.flight ++ a.item ∷ []) }
  pub slots : m'.1 ≡ without_slot a.item.frame m.1

abbrev pub places : Purpose → Step (Option Frame) → Seated → ℕ → Seated → Type 0
places a st m found m' = Placed a m m'

-- the first item that a Peek has left is read, and the slot of its frame is taken with the frame in it
pub record Fetched (a : Purpose) (x : Item) (left : List Item) (m : Seated) (found : ℕ) (m' : Seated) : Type 0 where
  pub found_is : found ≡ x.desc.addr
  pub lawful : IsItemOn a.setup.config.geometry a.ring x
  pub view : m'.0 ≡ record m.0 { flight = fetching a.ring x left }
  pub slots : m'.1 ≡ with_slot x.frame x.frame m.1

abbrev pub fetches : Purpose → Step (Option Frame) → Seated → ℕ → Seated → Type 0
fetches a st m found m' = (x : Item) (left : List Item) → m.0.flight ≡ taking a.ring (x ∷ left) → Fetched a x left m found m'

-- the slot goes home empty
pub record Settled (a : Purpose) (x : Item) (left : List Item) (m m' : Seated) : Type 0 where
  pub view : m'.0 ≡ record m.0 { flight = still a.ring left }
  pub slots : m'.1 ≡ without_slot x.frame m.1

abbrev pub settles : Purpose → Step (Option Frame) → Seated → ℕ → Seated → Type 0
settles a st m found m' = (x : Item) (left : List Item) → m.0.flight ≡ fetching a.ring x left → Settled a x left m m'

-- the same by the read of the entry's second word
abbrev pub reads : Purpose → Step (Option Frame) → Seated → ℕ → Seated → Type 0
reads a st m found m' = (x : Item) (left : List Item) → m.0.flight ≡ fetching a.ring x left → Settled a x left m m' × (found ≡ second_word x.desc)

-- the slot of an item's frame was taken last, whatever lies in it
abbrev pub IsTaken : Option Frame → List (ℕ × Option Frame) → Type 0
IsTaken None slots = Unit {0}
IsTaken (Some f) slots = (old : Option Frame) × (slots ≡ (f.number, old) ∷ rest slots)

-- an item stands in its place, with its frame at home
pub record PutIn (r : Ring) (x : Item) (m m' : Seated) : Type 0 where
  pub view : m'.0 ≡ record m.0 { flight = placing r (lying m.0.flight ++ x ∷ []) }
  pub slots : m'.1 ≡ m.1

-- an item is out of its ring, the first that a Peek had left
pub record TakenOut (r : Ring) (x : Item) (left : List Item) (result : Item) (m m' : Seated) : Type 0 where
  pub item : result ≡ x
  pub view : m'.0 ≡ record m.0 { flight = still r left }
  pub slots : m'.1 ≡ m.1

-- what lay in the slot that was taken last comes out of it
pub record Emptied (f : Option Frame) (m : Seated) (result : Option Frame) (m' : Seated) : Type 0 where
  pub frame : result ≡ f
  pub view : m'.0 ≡ m.0
  pub slots : m'.1 ≡ with_slot f None (without_slot f m.1)
