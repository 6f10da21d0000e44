-- States from which an object may begin. Each frame is out in one ring, with the application of its
-- home pair, and nothing is held, reserved or had. The opening is such a state, and so is the one in which COMPLETION has the
-- frames (`Opening.antt`). All of this is this project's own.
use Rattle.std.specs.Prelude.{◌≡◌, ℕ, ◌≤◌, List, [], length, All}
use Rattle.xsk_umem.specs.Frame.{Frame}
use Rattle.xsk_umem.specs.Geometry.{IsGeometry}
use Rattle.xsk_model.specs.Config.{Config, IsConfig, HasRing, size_of, callers_of}
use Rattle.xsk_model.specs.Numbers.{times}
use Rattle.xsk_model.specs.Rings.{app_of, places_of}
use Rattle.xsk_model.specs.Marks.{HasMark, mark_places_of}
use Rattle.xsk_model.specs.Object.{RingState, State, empty_ring, ring_at, mark_at, had_by}
use Rattle.xsk_model.specs.Legal.{IsItemOn}
use Rattle.xsk_model.specs.Opening.{home_ring}
use Rattle.xsk_model.specs.Holders.{HasOneHolder, out_numbers}
use Rattle.xsk_model.specs.Homes.{home_app, pool_at, first_mark}
use Rattle.xsk_model.specs.declared.call.Ring.{Ring}
use Rattle.xsk_model.specs.declared.call.Ring.TheVariants.{Fill, Comp, Rx, Tx}
use Rattle.xsk_model.specs.declared.call.Mark.{Mark}

-- a ring at the start: what is out in it fits it and may stand there, with the application of its home pair
pub record IsStartRing (c : Config) (r : Ring) (ring : RingState) : Type 0 where
  pub few : length ring.out ≤ size_of c r
  pub lawful : All (IsItemOn c.geometry r) ring.out
  pub home : (n : ℕ) → 1 ≤ times n (out_numbers ring) → app_of c r ≡ home_app c n
  pub held : ring.held ≡ []
  pub room : ring.room ≡ 0

-- the state at the start
pub record IsStart (c : Config) (s : State) : Type 0 where
  pub geometry : IsGeometry c.geometry
  pub config : IsConfig c
  pub ring : (r : Ring) → HasRing c r → IsStartRing c r (ring_at c s r)
  pub mark : (m : Mark) → HasMark c m → mark_at c s m ≡ first_mark c m
  pub had : (who : ℕ) → had_by s who ≡ []
  pub holder : HasOneHolder c.geometry.frames s
  pub rings : length s.rings ≡ places_of c
  pub marks : length s.marks ≡ mark_places_of c
  pub callers : length s.had ≡ callers_of c

-- what a ring is where COMPLETION has the frames
abbrev pub returned_ring : Config → List Frame → Ring → RingState
returned_ring c frames (Fill d) = empty_ring
returned_ring c frames (Comp d) = home_ring c.geometry (pool_at c frames d)
returned_ring c frames (Rx s) = empty_ring
returned_ring c frames (Tx s) = empty_ring
