-- The rule of the table: its words, the frames at home and what the seats know stand for one legal history.
use Rattle.std.specs.Prelude.{◌≡◌, ℕ, ◌+◌, ◌%◌, ◌^◌, ◌<◌, ◌≤◌, if◌then◌else◌, List, [], ◌∷◌, ◌++◌, length, get_or, flat_map, Option, Some, None}
use Rattle.std.specs.List.{range_with_len}
use mathlib.Core.Option.{some}
use mathlib.Core.Option as maybe
use lib.ListN.{get_elem?}
use Rattle.atomic_table.specs.Table.{State}
use Rattle.xsk_umem.specs.Frame.{Frame}
use Rattle.xsk_umem.specs.declared.batch.Item.{Item}
use Rattle.xsk_model.specs.Config.{Config, HasRing, size_of, callers_of}
use Rattle.xsk_model.specs.Numbers.{times, numbers}
use Rattle.xsk_model.specs.Rings.{is_ring}
use Rattle.xsk_model.specs.Rings as rings
use Rattle.xsk_model.specs.Marks.{HasMark}
use Rattle.xsk_model.specs.Object as object
use Rattle.xsk_model.specs.Object.{RingState, ring_at, mark_at}
use Rattle.xsk_model.specs.Entry.{Told, Entry, own}
use Rattle.xsk_model.specs.Own.{had_of, given_of, released_of}
use Rattle.xsk_model.specs.Opening.{opening}
use Rattle.xsk_model.specs.History.{IsHistory, state_after}
use Rattle.xsk_model.specs.Legal.{IsItemOn}
use Rattle.xsk_model.specs.declared.call.Ring.{Ring}
use Rattle.xsk_model.specs.declared.call.Mark.{Mark}
use Rattle.xsk_table.specs.Words.{second_word}
use Rattle.xsk_table.specs.Layout.{entry_words, words_of, Word, producer, consumer, entry, second, mark, word_at}
use Rattle.xsk_table.specs.View.{Basis, Flight, idle, placing, writing, taking, fetching, View}

-- ---- counts

-- a count in its word
abbrev pub wrapped : Basis → ℕ → ℕ
wrapped k n = (k.first + n) % 2 ^ 32

-- the items of a ring at the opening
abbrev pub opened : Basis → Ring → ℕ
opened k r = length (ring_at k.config (opening k.config k.frames) r).out

-- the items that came into a ring, and those whose places were given back
abbrev pub given : Basis → Ring → List Entry → ℕ
given k r log = opened k r + given_of r (own (rings.producer k.config r) log)

abbrev pub released : Basis → Ring → List Entry → ℕ
released k r log = released_of r (own (rings.consumer k.config r) log)

-- ---- words

-- what a word holds
abbrev pub at : Config → List ℕ → Word → ℕ
at c words w = get_or words (word_at c w) 0

-- the words of the entry of a count: its place is the count modulo the ring's size (af_xdp.rst, "Rings": sizes are
-- powers of two)
abbrev pub entry_of : Config → Ring → ℕ → Word
entry_of c r count = entry r (count % size_of c r)

abbrev pub second_of : Config → Ring → ℕ → Word
second_of c r count = second r (count % size_of c r)

-- an item stands in the entry of a count
pub record Lies (c : Config) (words : List ℕ) (r : Ring) (count : ℕ) (x : Item) : Type 0 where
  pub address : at c words (entry_of c r count) ≡ x.desc.addr
  pub other : entry_words r ≡ 2 → at c words (second_of c r count) ≡ second_word x.desc
  pub lawful : IsItemOn c.geometry r x

-- what the Submit in flight has written on a ring: whole items, and of one more the second word
pub record Written : Type 0 where
  pub whole : List Item
  pub half : List Item

abbrev pub nothing : Written
nothing = record { whole = []; half = [] }

abbrev pub written : Ring → Flight → Written
written r idle = nothing
written r (placing s items) = if is_ring r s then (record { whole = items; half = [] }) else nothing
written r (writing s items x) = if is_ring r s then (record { whole = items; half = x ∷ [] }) else nothing
written r (taking s items) = nothing
written r (fetching s x left) = nothing

-- all items that stand in a ring's entries, in order
abbrev pub standing : RingState → List Item → List Item
standing q items = q.held ++ (q.out ++ items)

-- the words of a ring stand for its state
pub record RingHolds (k : Basis) (words : List ℕ) (r : Ring) (q : RingState) (given released : ℕ) (w : Written) : Type 0 where
  pub producer_is : at k.config words (producer r) ≡ wrapped k given
  pub consumer_is : at k.config words (consumer r) ≡ wrapped k released
  pub within : length w.whole + length w.half ≤ q.room
  pub entries : (j : ℕ) (x : Item) → get_elem? (standing q w.whole) j ≡ some x → Lies k.config words r (k.first + released + j) x
  pub half : (x : Item) → get_elem? w.half 0 ≡ some x → entry_words r ≡ 2
      → at k.config words (second_of k.config r (k.first + (given + length w.whole))) ≡ second_word x.desc

-- ---- slots

-- each slot of a frame is at home with what lies in it, a frame or nothing, or out with a seat
abbrev pub Homes : Type 0
Homes = List (maybe.Option (Option Frame))

-- a frame lies in its slot
abbrev pub IsHome : Homes → Option Frame → Type 0
IsHome homes None = Unit {0}
IsHome homes (Some f) = get_elem? homes f.number ≡ some (some (Some f))

-- a slot is at home and empty
abbrev pub IsVacant : Homes → ℕ → Type 0
IsVacant homes n = get_elem? homes n ≡ some (some None)

-- the frames of these items lie in their slots
abbrev pub AllHome : Homes → List Item → Type 0
AllHome homes [] = Unit {0}
AllHome homes (x ∷ xs) = IsHome homes x.frame × AllHome homes xs

-- ---- calls in flight

-- the items of a call in flight whose frames are at home, and all its items
abbrev pub lying : Flight → List Item
lying idle = []
lying (placing r items) = items
lying (writing r items x) = items
lying (taking r items) = items
lying (fetching r x left) = left

abbrev pub aloft : Flight → List Item
aloft idle = []
aloft (placing r items) = items
aloft (writing r items x) = items ++ x ∷ []
aloft (taking r items) = items
aloft (fetching r x left) = x ∷ left

-- a caller has the frames of these items, each as often as it stands there
abbrev pub HasAll : List Item → List Told → Type 0
HasAll items mine = (n : ℕ) → times n (numbers items) ≤ times n (had_of mine)

-- the items are the last of those that a ring holds
abbrev pub AreLast : List Item → List Item → Type 0
AreLast items held = (done : List Item) × (held ≡ done ++ items)

-- A Submit in flight has its ring's producer as caller, which has the frames; a Peek in flight has the consumer, and
-- its items are the last that the ring holds.
abbrev pub IsInFlight : Basis → object.State → List Told → ℕ → Flight → Type 0
IsInFlight k s mine who idle = Unit {0}
IsInFlight k s mine who (placing r items) = HasRing k.config r × (who ≡ rings.producer k.config r) × HasAll items mine
IsInFlight k s mine who (writing r items x) = HasRing k.config r × (who ≡ rings.producer k.config r) × HasAll (items ++ x ∷ []) mine
IsInFlight k s mine who (taking r items) = HasRing k.config r × (who ≡ rings.consumer k.config r) × HasAll items mine × AreLast items (ring_at k.config s r).held
IsInFlight k s mine who (fetching r x left) = HasRing k.config r × (who ≡ rings.consumer k.config r) × HasAll (x ∷ left) mine × AreLast (x ∷ left) (ring_at k.config s r).held

-- ---- seats

abbrev pub StartsWith : List Entry → List Entry → Type 0
StartsWith log front = (later : List Entry) × (log ≡ front ++ later)

-- a seat has seen, and was told of, a front of the history; all entries of its callers are in what it has seen, and all
-- of the others', which have no call in flight, in what it was told of
pub record Knows (log : List Entry) (flights : List Flight) (v : View) : Type 0 where
  pub seen : StartsWith log v.seen
  pub told : StartsWith log v.told
  pub mine : (w : ℕ) → 0 < times w v.callers → (own w log ≡ own w v.seen) × (get_or flights w idle ≡ v.flight)
  pub others : (w : ℕ) → 0 < times w v.others → (own w log ≡ own w v.told) × (get_or flights w idle ≡ idle)

abbrev pub callers_in : View → List ℕ
callers_in v = v.callers ++ v.others

-- all callers, with whom the first seat begins
abbrev pub all_callers : Basis → List ℕ
all_callers k = range_with_len 0 (callers_of k.config)

-- ---- the rule

-- There are a legal history and a call in flight, or none, for each caller, such that: each seat knows its part of both,
-- and no caller stands twice in the seats; each ring's words stand for its state, and each mark's word is the mark; the
-- frames that are out in rings, and those of calls in flight, lie in their slots; and each other slot that no call in
-- flight has is empty.
pub record Rule (k : Basis) (s : State (Option Frame) View) : Type 0 where
  pub log : List Entry
  pub flights : List Flight
  pub legal : IsHistory k.config k.frames log
  pub words_len : length s.words ≡ words_of k.config
  pub homes_len : length s.homes ≡ k.config.geometry.frames
  pub flights_len : length flights ≡ callers_of k.config
  pub seats : (j : ℕ) (v : View) → get_elem? s.views j ≡ some v → Knows log flights v
  pub apart : (w : ℕ) → times w (flat_map callers_in s.views) ≤ 1
  pub in_flight : (w : ℕ) → w < callers_of k.config → IsInFlight k (state_after k.config k.frames log) (own w log) w (get_or flights w idle)
  pub rings : (r : Ring) → HasRing k.config r
      → RingHolds k s.words r (ring_at k.config (state_after k.config k.frames log) r) (given k r log) (released k r log) (written r (get_or flights (rings.producer k.config r) idle))
  pub marks : (m : Mark) → HasMark k.config m → at k.config s.words (mark m) ≡ mark_at k.config (state_after k.config k.frames log) m
  pub outs : (r : Ring) → HasRing k.config r → AllHome s.homes (ring_at k.config (state_after k.config k.frames log) r).out
  pub lie : (w : ℕ) → AllHome s.homes (lying (get_or flights w idle))
  pub vacant : (n : ℕ) → n < k.config.geometry.frames
      → ((r : Ring) → HasRing k.config r → times n (numbers (ring_at k.config (state_after k.config k.frames log) r).out) ≡ 0)
      → ((w : ℕ) → times n (numbers (aloft (get_or flights w idle))) ≡ 0) → IsVacant s.homes n
