-- How a worker sees that a ring gets no more, and what it does once it told so itself: it finds the ring empty after it
-- has found each of some marks to be 1, and it submits nothing more after it has set its own mark to 1. All of this is this
-- project's own.
use Rattle.std.specs.Prelude.{ℕ, Bool, true, false, ◌&&◌, ◌||◌, ◌==◌, if◌then◌else◌, List, [], ◌∷◌}
use Rattle.std.specs.List.{fold}
use Rattle.xsk_model.specs.Rings.{is_ring}
use Rattle.xsk_model.specs.Marks.{is_mark}
use Rattle.xsk_model.specs.Entry.{Told}
use Rattle.xsk_model.specs.declared.call.Ring.{Ring}
use Rattle.xsk_model.specs.declared.call.Mark.{Mark}
use Rattle.xsk_model.specs.declared.call.Call.{Call}
use Rattle.xsk_model.specs.declared.call.Call.TheVariants.{Reserve, Submit, Peek, Release, Swap, Look}
use Rattle.xsk_model.specs.declared.call.Reply.{Reply}
use Rattle.xsk_model.specs.declared.call.Reply.TheVariants.{Granted, Full, Submitted, Items, Empty, Released, Old}

-- ---- finding a ring empty

-- the marks that were not yet found to be 1, and whether the ring was found empty after all were, and gave no item since
pub record Draining : Type 0 where
  pub unseen : List Mark
  pub empty : Bool

abbrev pub are_none : List Mark → Bool
are_none [] = true
are_none (m ∷ ms) = false

abbrev pub unseen_after : List Mark → Mark → ℕ → List Mark
unseen_after [] m number = []
unseen_after (n ∷ ns) m number = if is_mark n m && (number == 1) then unseen_after ns m number else n ∷ unseen_after ns m number

abbrev pub found : Ring → Draining → Ring → Reply → Draining
found r s q Granted = s
found r s q (Full free) = s
found r s q Submitted = s
found r s q (Items items) = if is_ring r q then record s { empty = false } else s
found r s q Empty = if is_ring r q then record s { empty = are_none s.unseen } else s
found r s q Released = s
found r s q (Old number) = s

abbrev pub looked : Draining → Mark → Reply → Draining
looked s m Granted = s
looked s m (Full free) = s
looked s m Submitted = s
looked s m (Items items) = s
looked s m Empty = s
looked s m Released = s
looked s m (Old number) = record s { unseen = unseen_after s.unseen m number }

abbrev pub draining_after : Ring → Draining → Call → Reply → Draining
draining_after r s (Reserve q n) reply = s
draining_after r s (Submit q items) reply = s
draining_after r s (Peek q n) reply = found r s q reply
draining_after r s (Release q n) reply = s
draining_after r s (Swap m value) reply = s
draining_after r s (Look m) reply = looked s m reply

abbrev pub draining_step : Ring → Draining → Told → Draining
draining_step r s t = draining_after r s t.call t.reply

abbrev pub draining_of : List Mark → Ring → List Told → Draining
draining_of ms r l = fold (draining_step r) (record { unseen = ms; empty = false }) l

-- ---- submitting nothing more

-- whether the worker has set the mark to 1, and whether it submitted on the ring after that
pub record Telling : Type 0 where
  pub told : Bool
  pub late : Bool

abbrev pub telling_after : Mark → Ring → Telling → Call → Telling
telling_after m r s (Reserve q n) = s
telling_after m r s (Submit q items) = record s { late = s.late || (s.told && is_ring r q) }
telling_after m r s (Peek q n) = s
telling_after m r s (Release q n) = s
telling_after m r s (Swap n value) = record s { told = s.told || (is_mark m n && (value == 1)) }
telling_after m r s (Look n) = s

abbrev pub telling_step : Mark → Ring → Telling → Told → Telling
telling_step m r s t = telling_after m r s t.call

abbrev pub telling_of : Mark → Ring → List Told → Telling
telling_of m r l = fold (telling_step m r) (record { told = false; late = false }) l
