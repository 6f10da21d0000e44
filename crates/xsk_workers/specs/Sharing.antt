-- The hands of a lock, before they run and after.
use Rattle.std.specs.Prelude.{◌≡◌, ℕ, ◌+◌, ◌<◌, ◌≤◌, List, [], ◌∷◌, ◌++◌, All}
use Rattle.xsk_lock.specs.Rule.{times, mine}
use Rattle.xsk_lock.specs.Held.{Holder, Face, Belongs, IsOff}

-- the numbers of several hands
abbrev pub mine_of_all : {N : Type 0} → List (Holder N) → List ℕ
mine_of_all [] = []
mine_of_all (hand ∷ hands) = mine hand.view ++ mine_of_all hands

module _ {N : Type 0} (lock : Face N) where
  -- a hand is this lock's, and doesn't hold its value
  pub record IsFree (hand : Holder N) : Type 0 where
    pub belongs : Belongs lock hand
    pub off : IsOff hand

  -- and has the numbers that it had
  pub record Stays (old new : Holder N) : Type 0 where
    pub free : IsFree new
    pub mine : mine new.view ≡ mine old.view

  -- One hand, those that were started and those that wait are free, and each of the lock's numbers stands with one of them.
  pub record AreAll (hand : Holder N) (started waiting : List (Holder N)) : Type 0 where
    pub free : IsFree hand
    pub are_started : All IsFree started
    pub are_waiting : All IsFree waiting
    pub numbers : (h : ℕ) → h < lock.hands → 1 ≤ times h (mine hand.view) + times h (mine_of_all started) + times h (mine_of_all waiting)
