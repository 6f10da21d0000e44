-- A new table: its words, its slots and its passes.
use Rattle.std.specs.Prelude.{◌≡◌, ℕ, ◌+◌, ◌*◌, ◌%◌, ◌^◌, ◌<◌, Option, Some, None, List, [], ◌∷◌, map, length, get_or, replicate, slice_index}
use mathlib.Core.Option.{some}
use lib.ListN.{get_elem?}
use Rattle.xsk_umem.specs.Frame.{Frame}
use Rattle.xsk_umem.specs.Geometry.{base_of}
use Rattle.xsk_model.specs.Config.{Config, HasRing, pool_of, map_of}
use Rattle.xsk_model.specs.Marks.{HasMark}
use Rattle.xsk_model.specs.Homes.{first_mark}
use Rattle.xsk_model.specs.Rings.{place}
use Rattle.xsk_model.specs.Rings as rings
use Rattle.xsk_model.specs.declared.call.Ring.{Ring}
use Rattle.xsk_model.specs.declared.call.Ring.TheVariants.{Fill, Comp, Rx, Tx}
use Rattle.xsk_model.specs.declared.call.Mark.{Mark}
use Rattle.xsk_model.specs.declared.call.Mark.TheVariants.{Cell}
use Rattle.xsk_table.specs.Layout.{words_of, Word, producer, consumer, entry, second, mark, HasWord}
use Rattle.xsk_table.specs.View.{Basis, idle}
use Rattle.xsk_table.specs.Rule.{at, wrapped, opened, entry_of, all_callers}
use Rattle.xsk_model.specs.Opening.{IsOpened}
use Rattle.xsk_table.specs.declared.end.End.{End}
use Rattle.xsk_table.specs.Held.{Board, Holder, new_pass, none_known, known_in, EndHolds, EndsHold, no_end}

-- a pass for each caller, none with a call made
abbrev pub new_passes : Board → List (Option Holder)
new_passes b = map (λ who. Some (new_pass b who)) (all_callers b.setup)

-- passes that rest: each that is there stands at its caller's number, with no call in flight
abbrev pub AtRest : List (Option Holder) → Type 0
AtRest passes = (w : ℕ) (h : Holder) → get_elem? passes w ≡ some (Some h) → (h.who ≡ w) × (h.view.flight ≡ idle)

-- ---- words

-- the entries that a ring has at the opening
abbrev pub first_count : Config → Ring → ℕ
first_count c (Fill d) = pool_of c
first_count c (Comp d) = 0
first_count c (Rx s) = 0
first_count c (Tx s) = 0

-- the words of the pools' frames in FILL
abbrev pub ArePooled : Config → ℕ → ℕ → ℕ → List ℕ → Type 0
ArePooled c first d count words = (j : ℕ) → j < count → at c words (entry_of c (Fill d) (first + j)) ≡ base_of c.geometry (d * pool_of c + j)

-- the words of a new table
pub record WordsOpen (c : Config) (first : ℕ) (words : List ℕ) : Type 0 where
  pub wide : length words ≡ words_of c
  pub producers : (r : Ring) → HasRing c r → at c words (producer r) ≡ (first + first_count c r) % 2 ^ 32
  pub consumers : (r : Ring) → HasRing c r → at c words (consumer r) ≡ first
  pub entries : (d : ℕ) → d < length c.pairs → ArePooled c first d (pool_of c) words
  pub marks : (m : Mark) → HasMark c m → at c words (mark m) ≡ first_mark c m

-- ---- how they are laid

-- words that one FILL ring's, those of some, or a port's cells, may differ in
abbrev pub IsOfFill : ℕ → Word → Type 0
IsOfFill d (producer r) = r ≡ Fill d
IsOfFill d (consumer r) = ⊥
IsOfFill d (entry r i) = r ≡ Fill d
IsOfFill d (second r i) = ⊥
IsOfFill d (mark m) = ⊥

abbrev pub IsOfCell : ℕ → Word → Type 0
IsOfCell port (producer r) = ⊥
IsOfCell port (consumer r) = ⊥
IsOfCell port (entry r i) = ⊥
IsOfCell port (second r i) = ⊥
IsOfCell port (mark m) = (index : ℕ) × (m ≡ Cell port index)

-- all words but these are as they were
abbrev pub Spares : Config → (Word → Type 0) → List ℕ → List ℕ → Type 0
Spares c In words words' = (length words' ≡ length words) × ((w : Word) → HasWord c w → (In w → ⊥) → at c words' w ≡ at c words w)

abbrev pub SparesBelow : Config → (ℕ → Word → Type 0) → ℕ → List ℕ → List ℕ → Type 0
SparesBelow c In n words words' = (length words' ≡ length words) × ((w : Word) → HasWord c w → ((i : ℕ) → i < n → In i w → ⊥) → at c words' w ≡ at c words w)

-- the first cells of a port stand in their words
abbrev pub AreCells : Config → ℕ → ℕ → List ℕ → Type 0
AreCells c port count words = (i : ℕ) → i < count → at c words (mark (Cell port i)) ≡ slice_index (map_of c port) i

-- a FILL ring's words at the opening
abbrev pub IsFilled : Config → ℕ → ℕ → List ℕ → Type 0
IsFilled c first d words = (at c words (producer (Fill d)) ≡ (first + pool_of c) % 2 ^ 32) × ArePooled c first d (pool_of c) words

-- ---- what the passes keep

-- the count at which a caller begins on a ring
abbrev pub Begins : Basis → ℕ → Ring → ℕ → Type 0
Begins k who r n = (who ≡ rings.producer k.config r → n ≡ wrapped k (opened k r)) × (who ≡ rings.consumer k.config r → n ≡ wrapped k 0)

-- the first counts stand for rings on which no call was made
pub record AreFirst (k : Basis) (who : ℕ) (count : ℕ) (ends : List End) : Type 0 where
  pub wide : length ends ≡ count
  pub each : (r : Ring) → HasRing k.config r → place k.config r < count → EndHolds k who [] r (get_or ends (place k.config r) no_end)
  pub known : known_in ends ≡ replicate count 0

abbrev pub FirstEnds : Config → ℕ → ℕ → List End → Type 0
FirstEnds c first who ends = (frames : List Frame) → IsOpened c frames → EndsHold (record { config = c; first = first; frames = frames }) who [] ends × (known_in ends ≡ none_known c)

-- the first counts of all callers
abbrev pub AllFirst : Config → ℕ → ℕ → List (List End) → Type 0
AllFirst c first callers lists = (length lists ≡ callers) × ((who : ℕ) (ends : List End) → get_elem? lists who ≡ some ends → FirstEnds c first who ends)

-- the frame that lies in a slot, if there is one
abbrev pub list_of : Option Frame → List Frame
list_of None = []
list_of (Some f) = f ∷ []
