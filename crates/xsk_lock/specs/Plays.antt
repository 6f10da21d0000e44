-- What the steps of the lock's table tell.
use Rattle.std.specs.Prelude.{◌≡◌, ◌≢◌, ◌⊎◌, ℕ, ◌==◌, true, false, slice_index, [], ◌∷◌, ◌++◌, Option, Some}
use mathlib.Core.Option.{some}
use lib.ListN.{get_elem?}
use Rattle.atomic_table.specs.Table.{State, Me, Step, rest}
use Rattle.xsk_lock.specs.declared.view.Facts.{Facts}
use Rattle.xsk_lock.specs.declared.view.Known.{Known}
use Rattle.xsk_lock.specs.declared.view.Known.TheVariants.{Sees}
use Rattle.xsk_lock.specs.Rule.{Rule}

module _ {N : Type 0} where
  -- what a hand knows after its swap found n
  abbrev pub tried : Facts N → ℕ → Facts N
  tried v n = record v { holds = n == 0; found = v.found ++ n ∷ [] }

  abbrev pub let_go : Facts N → Facts N
  let_go v = record v { holds = false }

module _ {T N : Type 0} where
  -- another view holds the value, in a state of the lock in which this one stands too
  abbrev pub HeldElsewhere : (T → N) → Facts N → Type 0
  HeldElsewhere name v = (s : State (Option T) (Known N)) × (i j : ℕ) × (w : Facts N) × Rule name v.name v.hands s × (slice_index s.words 0 ≡ 1)
      × (get_elem? s.views i ≡ some (Sees v)) × (j ≢ i) × (get_elem? s.views j ≡ some (Sees w)) × (w.holds ≡ true)

  abbrev pub Locks : (T → N) → Me (Option T) (Known N) → ℕ → Me (Option T) (Known N) → Type 0
  Locks name m n m' = (v : Facts N) → m.0 ≡ Sees v
      → ((n ≡ 0) ⊎ (n ≡ 1)) × (m'.0 ≡ Sees (tried v n)) × (n ≡ 0 → (x : T) × (m'.1 ≡ (0, Some x) ∷ m.1) × (name x ≡ v.name)) × (n ≡ 1 → (m'.1 ≡ m.1) × HeldElsewhere name v)

  abbrev pub Unlocks : Me (Option T) (Known N) → Me (Option T) (Known N) → Type 0
  Unlocks m m' = (v : Facts N) → m.0 ≡ Sees v → (m'.0 ≡ Sees (let_go v)) × (m'.1 ≡ rest m.1)

  abbrev pub locks : (T → N) → Step (Option T) → Me (Option T) (Known N) → ℕ → Me (Option T) (Known N) → Type 0
  locks name st m n m' = Locks name m n m'

  abbrev pub unlocks : Step (Option T) → Me (Option T) (Known N) → ℕ → Me (Option T) (Known N) → Type 0
  unlocks st m n m' = Unlocks m m'
