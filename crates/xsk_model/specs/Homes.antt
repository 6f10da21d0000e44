-- Where frames are at home, and what is where at the opening. Each frame stays with the application of the pair whose
-- pool it comes from, as FILL and COMPLETION of a pair and all rings of its sockets have one application. The pools and
-- the numbers of callers are this project's own.
use Rattle.std.specs.Prelude.{◌≡◌, ℕ, ◌+◌, ◌*◌, ◌/◌, ◌<◌, ◌≤◌, nat_lt, if◌then◌else◌, List, [], length, take, drop, slice_index}
use Rattle.std.specs.List.{range_with_len}
use Rattle.xsk_umem.specs.Frame.{Frame}
use Rattle.xsk_model.specs.Config.{Config, HasRing, pool_of, map_of, callers_of}
use Rattle.xsk_model.specs.Numbers.{times}
use Rattle.xsk_model.specs.Rings.{app_of, places_of}
use Rattle.xsk_model.specs.Marks.{HasMark, mark_places_of}
use Rattle.xsk_model.specs.Object.{RingState, State, empty_ring, ring_at, mark_at, had_by}
use Rattle.xsk_model.specs.Opening.{home_ring}
use Rattle.xsk_model.specs.Holders.{out_numbers}
use Rattle.xsk_model.specs.declared.call.Ring.{Ring}
use Rattle.xsk_model.specs.declared.call.Ring.TheVariants.{Fill, Comp, Rx, Tx}
use Rattle.xsk_model.specs.declared.call.Mark.{Mark}
use Rattle.xsk_model.specs.declared.call.Mark.TheVariants.{NeedFill, NeedTx, Kick, RxDone, Gone, TxDone, Cell, Closing, Acked, Bounced}

-- ---- homes

-- the pair in whose pool a frame is
abbrev pub home_pair : Config → ℕ → ℕ
home_pair c n = n / pool_of c

-- the application of that pair, as a caller
abbrev pub home_app : Config → ℕ → ℕ
home_app c n = app_of c (Fill (home_pair c n))

-- the application with which a caller moves frames, as a caller: a driver's is that of its pair, and an application is
-- its own
abbrev pub serves : Config → ℕ → ℕ
serves c who = if nat_lt who (length c.pairs) then app_of c (Fill who) else who

-- ---- frames of two holders

-- no number stands in both lists, nor twice in one of them
abbrev pub AreApart : List ℕ → List ℕ → Type 0
AreApart xs ys = (n : ℕ) → times n xs + times n ys ≤ 1

-- all numbers are below a bound
abbrev pub AreBelow : ℕ → List ℕ → Type 0
AreBelow bound xs = (n : ℕ) → 1 ≤ times n xs → n < bound

-- ---- the opening

-- a pair's pool: as many frames as each other pair has, behind those of the pairs before it
abbrev pub pool_at : Config → List Frame → ℕ → List Frame
pool_at c frames d = take (pool_of c) (drop (d * pool_of c) frames)

-- what a ring is at the opening
abbrev pub first_ring : Config → List Frame → Ring → RingState
first_ring c frames (Fill d) = home_ring c.geometry (pool_at c frames d)
first_ring c frames (Comp d) = empty_ring
first_ring c frames (Rx s) = empty_ring
first_ring c frames (Tx s) = empty_ring

-- what a mark is there
abbrev pub first_mark : Config → Mark → ℕ
first_mark c (NeedFill d) = 0
first_mark c (NeedTx s) = 0
first_mark c (Kick d) = 0
first_mark c (RxDone d) = 0
first_mark c (Gone d) = 0
first_mark c (TxDone a) = 0
first_mark c (Cell port index) = slice_index (map_of c port) index
first_mark c (Closing s) = 0
first_mark c (Acked s) = 0
first_mark c (Bounced d) = 0

-- the state in which a configuration is opened, part by part
pub record IsFirst (c : Config) (frames : List Frame) (s : State) : Type 0 where
  pub ring : (r : Ring) → HasRing c r → ring_at c s r ≡ first_ring c frames r
  pub pool : (d : ℕ) → d < length c.pairs → out_numbers (ring_at c s (Fill d)) ≡ range_with_len (d * pool_of c) (pool_of c)
  pub mark : (m : Mark) → HasMark c m → mark_at c s m ≡ first_mark c m
  pub had : (who : ℕ) → had_by s who ≡ []
  pub rings : length s.rings ≡ places_of c
  pub marks : length s.marks ≡ mark_places_of c
  pub callers : length s.had ≡ callers_of c
