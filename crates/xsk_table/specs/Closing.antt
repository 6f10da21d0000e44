-- The end of a table.
use Rattle.std.specs.Prelude.{◌≡◌, ℕ, ◌<◌, List, [], ◌∷◌, length, get_or, Option, Some, None, Contains, AllPairs}
use Rattle.std.specs.List.{range_with_len}
use mathlib.Core.Option.{some}
use lib.ListN.{get_elem?}
use Rattle.xsk_umem.specs.Frame.{Frame}
use Rattle.xsk_umem.specs.declared.batch.Item.{Item}
use Rattle.xsk_model.specs.Config.{Config, HasRing, callers_of}
use Rattle.xsk_model.specs.Numbers.{times, numbers}
use Rattle.xsk_model.specs.Object as object
use Rattle.xsk_model.specs.Object.{ring_at}
use Rattle.xsk_model.specs.Entry.{Entry, own}
use Rattle.xsk_model.specs.History.{IsHistory, state_after}
use Rattle.xsk_model.specs.declared.call.Ring.{Ring}
use Rattle.xsk_table.specs.View.{Basis, idle, View}
use Rattle.xsk_table.specs.Rule.{StartsWith}
use Rattle.xsk_table.specs.Held.{Board, Holder, Belongs}

-- the pass of each caller is there, and belongs to the table
abbrev pub AreThere : Board → List (Option Holder) → Type 0
AreThere b passes = (w : ℕ) → w < callers_of b.setup.config → (h : Holder) × (get_or passes w None ≡ Some h) × Belongs b h

-- The history in which all passes end: it is legal, it begins with all that each of them has seen, and of each caller's
-- entries it has just those that its pass has seen.
pub record EndsIn (b : Board) (passes : List (Option Holder)) (log : List Entry) : Type 0 where
  pub legal : IsHistory b.setup.config b.setup.frames log
  pub fronts : (w : ℕ) (h : Holder) → w < callers_of b.setup.config → get_or passes w None ≡ Some h → StartsWith log h.view.seen
  pub of_each : (w : ℕ) (h : Holder) → w < callers_of b.setup.config → get_or passes w None ≡ Some h → own w log ≡ own w h.view.seen

-- a frame, with these bytes, is out in a ring
pub record IsOut (c : Config) (s : object.State) (f : Frame) : Type 0 where
  pub ring : Ring
  pub item : Item
  pub has : HasRing c ring
  pub stands : Contains (ring_at c s ring).out item
  pub frame : item.frame ≡ Some f

-- all frames that are out in rings, and no other, each once, in the order of their numbers
pub record AreFramesOut (c : Config) (s : object.State) (frames : List Frame) : Type 0 where
  pub all : (f : Frame) → IsOut c s f → Contains frames f
  pub only : (f : Frame) → Contains frames f → IsOut c s f
  pub rising : AllPairs (λ (f g : Frame). f.number < g.number) frames

-- ---- how a table ends

-- a seat of the first callers, which has seen all that their passes had
pub record Joined (passes : List (Option Holder)) (count : ℕ) (v : View) : Type 0 where
  pub callers : v.callers ≡ range_with_len 0 count
  pub alone : v.others ≡ []
  pub rests : v.flight ≡ idle
  pub fronts : (w : ℕ) (h : Holder) → w < count → get_or passes w None ≡ Some h → StartsWith v.seen h.view.seen
  pub of_each : (w : ℕ) (h : Holder) → w < count → get_or passes w None ≡ Some h → own w v.seen ≡ own w h.view.seen

-- a frame is in its slot
abbrev pub IsThere : List (Option Frame) → Option Frame → Type 0
IsThere slots None = Unit {0}
IsThere slots (Some f) = get_elem? slots f.number ≡ some (Some f)

-- so are the frames of these items
abbrev pub AllThere : List (Option Frame) → List Item → Type 0
AllThere slots [] = Unit {0}
AllThere slots (x ∷ xs) = IsThere slots x.frame × AllThere slots xs

-- after a legal history, with no call in flight, the frames that are out in rings are in their slots, and each other
-- slot is empty
pub record Rests (k : Basis) (log : List Entry) (slots : List (Option Frame)) : Type 0 where
  pub legal : IsHistory k.config k.frames log
  pub count : length slots ≡ k.config.geometry.frames
  pub outs : (r : Ring) → HasRing k.config r → AllThere slots (ring_at k.config (state_after k.config k.frames log) r).out
  pub others : (n : ℕ) → n < k.config.geometry.frames
      → ((r : Ring) → HasRing k.config r → times n (numbers (ring_at k.config (state_after k.config k.frames log) r).out) ≡ 0) → get_elem? slots n ≡ some None
