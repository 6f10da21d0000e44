-- The rule of the lock's table: its word, its slot and the views of the seats.
use Rattle.std.specs.Prelude.{◌≡◌, ◌⊎◌, ℕ, ◌+◌, ◌<◌, ◌≤◌, ◌==◌, if◌then◌else◌, Bool, true, false, List, [], ◌∷◌, ◌++◌, take, drop, length, slice_index, Option, Some}
use Rattle.std.specs.List.{range_with_len}
use mathlib.Core.Option.{some}
use mathlib.Core.Option as maybe
use lib.ListN.{get_elem?}
use Rattle.atomic_table.specs.Table.{State}
use Rattle.xsk_lock.specs.declared.view.Known.{Known}
use Rattle.xsk_lock.specs.declared.view.Known.TheVariants.{Spent, Sees}

-- how often a number stands in a list
abbrev pub times : ℕ → List ℕ → ℕ
times h [] = 0
times h (x ∷ xs) = (if x == h then 1 else 0) + times h xs

-- the sum of a number of each view
abbrev pub total : {V : Type 0} → (V → ℕ) → List V → ℕ
total f [] = 0
total f (v ∷ vs) = f v + total f vs

abbrev pub counts : Bool → ℕ
counts true = 1
counts false = 0

module _ {N : Type 0} where
  abbrev pub mine : Known N → List ℕ
  mine Spent = []
  mine (Sees v) = v.mine

  abbrev pub holds : Known N → Bool
  holds Spent = false
  holds (Sees v) = v.holds

  abbrev pub found : Known N → List ℕ
  found Spent = []
  found (Sees v) = v.found

  -- 1 where the view holds the value
  abbrev pub holder : Known N → ℕ
  holder Spent = 0
  holder (Sees v) = counts v.holds

  -- the first seat's view
  abbrev pub newcomer : N → ℕ → Known N
  newcomer lock hands = Sees (record { name = lock; hands = hands; mine = range_with_len 0 hands; holds = false; found = [] })

  -- the seat of the first hand, and that of the others
  abbrev pub first_hand : Known N → Known N
  first_hand Spent = Spent
  first_hand (Sees v) = Sees (record v { mine = take 1 v.mine; holds = false; found = [] })

  abbrev pub other_hands : Known N → Known N
  other_hands Spent = Spent
  other_hands (Sees v) = Sees (record v { mine = drop 1 v.mine })

  -- a seat with the hands' numbers of another
  abbrev pub both_hands : Known N → Known N → Known N
  both_hands Spent w = Spent
  both_hands (Sees v) w = Sees (record v { mine = v.mine ++ mine w })

  -- a view of the lock
  abbrev pub IsOf : N → ℕ → Known N → Type 0
  IsOf lock hands Spent = Unit {0}
  IsOf lock hands (Sees v) = (v.name ≡ lock) × (v.hands ≡ hands) × ((h : ℕ) → 1 ≤ times h v.mine → h < hands) × (1 ≤ length v.mine)

module _ {T N : Type 0} (name : T → N) (lock : N) where
  -- the slot is at home with a value of this name
  abbrev pub IsKept : List (maybe.Option (Option T)) → Type 0
  IsKept homes = (x : T) × (get_elem? homes 0 ≡ some (some (Some x))) × (name x ≡ lock)

  abbrev pub IsFree : State (Option T) (Known N) → Type 0
  IsFree s = (slice_index s.words 0 ≡ 0) × IsKept s.homes × (total holder s.views ≡ 0)

  abbrev pub IsTaken : State (Option T) (Known N) → Type 0
  IsTaken s = (slice_index s.words 0 ≡ 1) × (get_elem? s.homes 0 ≡ some maybe.none) × (total holder s.views ≡ 1)

  pub record Rule (hands : ℕ) (s : State (Option T) (Known N)) : Type 0 where
    pub words : length s.words ≡ 1
    pub slots : length s.homes ≡ 1
    pub seats : (j : ℕ) (v : Known N) → get_elem? s.views j ≡ some v → IsOf lock hands v
    pub apart : (h : ℕ) → total (λ v. times h (mine v)) s.views ≤ 1
    pub state : IsFree s ⊎ IsTaken s
