-- What a hand and a lock are to their callers.
use Rattle.std.specs.Prelude.{◌≡◌, ℕ, ◌<◌, ◌≤◌, true, false, List, [], ◌∷◌, map, Option, None}
use Rattle.std.specs.List.{range_with_len}
use Rattle.atomic_table.specs.Table.{Me}
use Rattle.atomic_table.specs.Seated.{TableId}
use Rattle.xsk_lock.specs.declared.view.Facts.{Facts}
use Rattle.xsk_lock.specs.declared.view.Known.{Known}
use Rattle.xsk_lock.specs.declared.view.Known.TheVariants.{Sees}
use Rattle.xsk_lock.specs.Rule.{times, mine, holds}

-- a hand
pub record Holder (N : Type 0) : Type 0 where
  pub table : TableId
  pub view : Known N

-- a seat holds the slot, which is empty then, exactly where its view holds the value
abbrev pub IsHeld : {T N : Type 0} → Me (Option T) (Known N) → Type 0
IsHeld {T} {N} me = (v : Facts N) × (me.0 ≡ Sees v) × (v.holds ≡ true → me.1 ≡ (0, None) ∷ []) × (v.holds ≡ false → me.1 ≡ [])

-- a lock
pub record Face (N : Type 0) : Type 0 where
  pub table : TableId
  pub name : N
  pub hands : ℕ

-- a hand is this lock's
pub record Belongs {N : Type 0} (lock : Face N) (hand : Holder N) : Type 0 where
  pub table : hand.table ≡ lock.table
  pub view : (v : Facts N) × (hand.view ≡ Sees v) × (v.name ≡ lock.name) × (v.hands ≡ lock.hands)

-- a hand has the numbers of all hands
abbrev pub HasAll : {N : Type 0} → Face N → Holder N → Type 0
HasAll lock hand = (h : ℕ) → h < lock.hands → 1 ≤ times h (mine hand.view)

module _ {N : Type 0} where
  -- a hand doesn't hold the value
  abbrev pub IsOff : Holder N → Type 0
  IsOff hand = holds hand.view ≡ false

  -- a hand holds the value
  abbrev pub IsOn : Holder N → Type 0
  IsOn hand = holds hand.view ≡ true

  -- the hands of a new lock: the numbers from 0 on, one each
  abbrev pub new_hand : Face N → ℕ → Holder N
  new_hand lock h = record { table = lock.table; view = Sees (record { name = lock.name; hands = lock.hands; mine = h ∷ []; holds = false; found = [] }) }

  abbrev pub new_hands : Face N → List (Holder N)
  new_hands lock = map (new_hand lock) (range_with_len 0 lock.hands)
