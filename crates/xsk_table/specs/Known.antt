-- What a caller knows of the other side of a ring from its last look there: places that are free, or items that are out. The
-- kernel's rings keep the same as cached_cons and cached_prod (net/xdp/xsk_queue.h).
use Rattle.std.specs.Prelude.{◌≡◌, ℕ, ◌+◌, ◌≤◌, ◌==◌, ◌⊎◌, Bool, true, false, if◌then◌else◌, List, [], ◌∷◌, ◌++◌, length, get_or}
use Rattle.xsk_model.specs.Config.{HasRing, size_of}
use Rattle.xsk_model.specs.Rings.{is_ring, place, producer, consumer}
use Rattle.xsk_model.specs.Object.{ring_at, free, taken}
use Rattle.xsk_model.specs.Entry.{Told, Entry, own}
use Rattle.xsk_model.specs.Own.{part_of, granted, room_of, held_of}
use Rattle.xsk_model.specs.History.{state_after}
use Rattle.xsk_model.specs.declared.call.Ring.{Ring}
use Rattle.xsk_model.specs.declared.call.Call.{Call}
use Rattle.xsk_model.specs.declared.call.Call.TheVariants.{Reserve, Submit, Peek, Release, Swap, Look}
use Rattle.xsk_table.specs.View.{Basis}
use Rattle.xsk_table.specs.Rule.{given, released}

-- the places of a ring that are free after a history, and the items that are out
abbrev pub free_after : Basis → List Entry → Ring → ℕ
free_after k seen r = free (size_of k.config r) (ring_at k.config (state_after k.config k.frames seen) r)

abbrev pub out_after : Basis → List Entry → Ring → ℕ
out_after k seen r = length (ring_at k.config (state_after k.config k.frames seen) r).out

-- ---- what is known is left

-- the places that a caller got on a ring, and the items
abbrev pub got_step : ℕ → Told → ℕ
got_step n t = n + (granted t.call t.reply + length (taken t.reply))

abbrev pub got_of : Ring → List Told → ℕ
got_of r mine = part_of got_step r 0 mine

-- whether a call gets places or items of a ring
abbrev pub gets_on : Ring → Call → Bool
gets_on r (Reserve s n) = is_ring r s
gets_on r (Submit s items) = false
gets_on r (Peek s n) = is_ring r s
gets_on r (Release s n) = false
gets_on r (Swap m value) = false
gets_on r (Look m) = false

-- what a caller finds on a ring whose last look is the last call of a history: the places that are free, or the items that
-- are out; with no call nothing is known
abbrev pub found : Basis → ℕ → Ring → List Entry → ℕ
found k who r [] = 0
found k who r (e ∷ es) = if who == producer k.config r then free_after k (e ∷ es) r else out_after k (e ∷ es) r

-- a look of a caller's own stands at the end, or nothing stands there
abbrev pub EndsInLook : ℕ → Ring → List Entry → Type 0
EndsInLook who r upto = (upto ≡ []) ⊎ ((before : List Entry) × (e : Entry) × (upto ≡ before ++ e ∷ []) × (e.who ≡ who) × (gets_on r e.call ≡ true))

-- The number that is known after a history is what the last look at the other side found, less what the caller had since.
pub record IsLeft (k : Basis) (who : ℕ) (seen : List Entry) (r : Ring) (n : ℕ) : Type 0 where
  pub upto : List Entry
  pub later : List Entry
  pub split : seen ≡ upto ++ later
  pub looked : EndsInLook who r upto
  pub left : n + got_of r (own who seen) ≡ found k who r upto + got_of r (own who upto)

abbrev pub AllIsLeft : Basis → ℕ → List Entry → List ℕ → Type 0
AllIsLeft k who seen known = (r : Ring) → HasRing k.config r → IsLeft k who seen r (get_or known (place k.config r) 0)

-- ---- what is known is there

-- So much is there for a ring's producer, or for its consumer, by the counts in the history that it has seen. These only
-- grow, so it is there whatever was done that the caller hasn't seen.
pub record IsSure (k : Basis) (who : ℕ) (seen : List Entry) (r : Ring) (n : ℕ) : Type 0 where
  pub fills : who ≡ producer k.config r → given k r seen + room_of r (own who seen) + n ≤ released k r seen + size_of k.config r
  pub empties : who ≡ consumer k.config r → released k r seen + held_of r (own who seen) + n ≤ given k r seen

-- all that is known, by the places of the rings, is there
abbrev pub AreSure : Basis → ℕ → List Entry → List ℕ → Type 0
AreSure k who seen known = (r : Ring) → HasRing k.config r → IsSure k who seen r (get_or known (place k.config r) 0)
