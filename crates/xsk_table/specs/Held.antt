-- A pass: what its caller knows, and what it keeps at run time.
use Rattle.std.specs.Prelude.{◌≡◌, ℕ, ◌+◌, ◌<◌, ◌≤◌, nat_le, Bool, false, List, [], ◌∷◌, map, length, get_or, replicate, slice_set, Option}
use Rattle.atomic_table.specs.Seated.{TableId}
use Rattle.xsk_umem.specs.Frame.{Frame}
use Rattle.xsk_umem.specs.Frames.{Frames}
use Rattle.xsk_umem.specs.declared.batch.Item.{Item}
use Rattle.xsk_model.specs.Config.{Config, HasRing, size_of, callers_of}
use Rattle.xsk_model.specs.Rings.{place, places_of, producer, consumer}
use Rattle.xsk_model.specs.Entry.{Told, own}
use Rattle.xsk_model.specs.Own.{given_of, released_of, room_of, held_of}
use Rattle.xsk_model.specs.History.{IsHistory}
use Rattle.xsk_model.specs.declared.call.Ring.{Ring}
use Rattle.xsk_model.specs.declared.call.Call.{Call}
use Rattle.xsk_model.specs.declared.call.Call.TheVariants.{Reserve, Submit, Peek, Release, Swap, Look}
use Rattle.xsk_table.specs.Layout.{ring_base, mark_bases, words_of, most_ring_words}
use Rattle.xsk_table.specs.declared.bases.MarkBases.{MarkBases}
use Rattle.xsk_table.specs.View.{Basis, taking, View, newcomer}
use Rattle.xsk_table.specs.Rule.{wrapped, opened, lying}
use Rattle.xsk_table.specs.declared.end.End.{End}

-- a table as its callers see it: which one it is, and its basis
pub record Board : Type 0 where
  pub table : TableId
  pub setup : Basis

-- a pass as its caller sees it: the table to which it belongs, the caller, what the caller has seen, and what it knows of
-- the other side of each ring, by the rings' places
pub record Holder : Type 0 where
  pub table : TableId
  pub who : ℕ
  pub view : View
  pub known : List ℕ

-- nothing is known of any ring
abbrev pub none_known : Config → List ℕ
none_known c = replicate (places_of c) 0

-- a pass that no call was made with
abbrev pub new_pass : Board → ℕ → Holder
new_pass b who = record { table = b.table; who = who; view = newcomer b.setup (who ∷ []); known = none_known b.setup.config }

-- where a ring stands among all rings
abbrev pub IsAt : Config → Ring → ℕ → Type 0
IsAt c r at = (at ≡ place c r) × (at < places_of c)

-- what a pass knows of a ring, and all that it knows with another number for that ring
abbrev pub known_on : Holder → Ring → ℕ
known_on p r = get_or p.known (place p.view.setup.config r) 0

abbrev pub with_known : Holder → Ring → ℕ → List ℕ
with_known p r n = slice_set p.known (place p.view.setup.config r) n

-- a call is covered where all that it asks for is known to be there
abbrev pub is_covered : Holder → Call → Bool
is_covered p (Reserve r n) = nat_le n (known_on p r)
is_covered p (Submit r items) = false
is_covered p (Peek r n) = nat_le n (known_on p r)
is_covered p (Release r n) = false
is_covered p (Swap m value) = false
is_covered p (Look m) = false

-- a pass belongs to a table
pub record Belongs (b : Board) (p : Holder) : Type 0 where
  pub table : p.table ≡ b.table
  pub setup : p.view.setup ≡ b.setup

-- ---- what a pass keeps

abbrev pub no_end : End
no_end = record { near = 0; far = 0; base = 0; mask = 0; known = 0 }

abbrev pub known_in : List End → List ℕ
known_in ends = map (λ (e : End). e.known) ends

-- where a ring's words stand and its size; on a ring that the caller fills what it gave, and that with what it has
-- reserved; on one that it empties what it released, and that with what it holds
pub record EndHolds (k : Basis) (who : ℕ) (mine : List Told) (r : Ring) (e : End) : Type 0 where
  pub base_is : e.base ≡ ring_base k.config r
  pub base_few : e.base ≤ most_ring_words
  pub mask_is : e.mask + 1 ≡ size_of k.config r
  pub fills : who ≡ producer k.config r
      → (e.near ≡ wrapped k (opened k r + given_of r mine)) × (e.far ≡ wrapped k (opened k r + given_of r mine + room_of r mine))
  pub empties : who ≡ consumer k.config r → (e.near ≡ wrapped k (released_of r mine)) × (e.far ≡ wrapped k (released_of r mine + held_of r mine))

pub record EndsHold (k : Basis) (who : ℕ) (mine : List Told) (ends : List End) : Type 0 where
  pub wide : length ends ≡ places_of k.config
  pub each : (r : Ring) → HasRing k.config r → EndHolds k who mine r (get_or ends (place k.config r) no_end)

-- the items that a Peek has left are on a ring that the caller empties, and it holds them there
abbrev pub AreLeft : Config → ℕ → List Told → Ring → List Item → Type 0
AreLeft c who mine r items = HasRing c r × (who ≡ consumer c r) × (length items ≤ held_of r mine)

-- what holds of a pass: its seat has one caller and holds no slot, and the counts are those of its own calls
pub record PassHolds (v : View) (slots : List (ℕ × Option Frame)) (who : ℕ) (ends : List End) (flying : ℕ) : Type 0 where
  pub one : v.callers ≡ who ∷ []
  pub alone : v.others ≡ []
  pub few : who < callers_of v.setup.config
  pub ends_hold : EndsHold v.setup who (own who v.seen) ends
  pub flying_is : flying ≡ length (lying v.flight)
  pub slots_are : slots ≡ []
  pub left : (r : Ring) (items : List Item) → v.flight ≡ taking r items → AreLeft v.setup.config who (own who v.seen) r items
  pub history : IsHistory v.setup.config v.setup.frames v.seen

-- what holds of a table: it knows where the first marks stand, and has a word for each of the layout and an empty queue with
-- room for all frames
pub record TableHolds (c : Config) (marks : MarkBases) (k : Basis) (table : TableId) (home : Frames) : Type 0 where
  pub config_is : c ≡ k.config
  pub marks_is : marks ≡ mark_bases k.config
  pub words : table.words ≡ words_of k.config
  pub some : 1 ≤ table.words
  pub home_is : home.items ≡ []
  pub room : k.config.geometry.frames ≤ home.limit
