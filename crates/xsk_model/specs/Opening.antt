-- The opening state of a lawful configuration: each pair's FILL ring has the frames of its home pool, and all else is
-- empty. That FILL is filled before the start is the way of af_xdp.rst's example programs; the pools are this
-- project's own. And the other way to open: COMPLETION has them.
use Rattle.std.specs.Prelude.{◌≡◌, ℕ, zero, suc, ◌+◌, ◌*◌, ◌-◌, ◌≤◌, Some, List, [], ◌∷◌, ◌++◌, length, take, drop, map, replicate, All, flat_map}
use Rattle.std.specs.List.{range_with_len}
use Rattle.xsk_umem.specs.Frame.{Frame}
use Rattle.xsk_umem.specs.Geometry.{Geometry, IsGeometry, base_of}
use Rattle.xsk_umem.specs.declared.batch.Item.{Item}
use Rattle.xsk_model.specs.declared.config.PairInfo.{PairInfo}
use Rattle.xsk_model.specs.Config.{Config, IsConfig, IsLawful, pool_of, callers_of}
use Rattle.xsk_model.specs.Marks.{flags_of}
use Rattle.xsk_model.specs.Object.{RingState, State, empty_ring}

-- all frames of the UMEM in order, with the bodies that are handed in
pub record AreFrames (g : Geometry) (frames : List Frame) : Type 0 where
  pub numbers : map (λ (f : Frame). f.number) frames ≡ range_with_len 0 g.frames
  pub bodies : All (λ (f : Frame). length f.bytes ≡ g.chunk) frames

-- where an object may be opened: a lawful configuration, over all frames of its UMEM
pub record IsOpened (c : Config) (frames : List Frame) : Type 0 where
  pub geometry : IsGeometry c.geometry
  pub config : IsConfig c
  pub lawful : IsLawful c
  pub umem : AreFrames c.geometry frames

-- a frame on FILL, as on COMPLETION: its base address, and no length and options
abbrev pub home_item : Geometry → Frame → Item
home_item g frame = record { frame = Some frame; desc = record { addr = base_of g frame.number; len = 0; options = 0 } }

abbrev pub home_ring : Geometry → List Frame → RingState
home_ring g frames = record { out = map (home_item g) frames; held = []; room = 0 }

-- so many rings, each with the next frames of its pool
abbrev pub home_rings : Geometry → ℕ → ℕ → List Frame → List RingState
home_rings g pool zero frames = []
home_rings g pool (suc pairs) frames = home_ring g (take pool frames) ∷ home_rings g pool pairs (drop pool frames)

-- a port's cells with their configured numbers, in 64 places
abbrev pub opening_cells : List ℕ → List ℕ
opening_cells cells = cells ++ replicate (64 - length cells) 0

abbrev pub opening : Config → List Frame → State
opening c frames = record {
  rings = home_rings c.geometry (pool_of c) (length c.pairs) frames ++ replicate (length c.pairs + 2 * length c.sockets) empty_ring;
  marks = replicate (flags_of c) 0 ++ flat_map opening_cells c.cells ++ replicate (2 * length c.sockets + length c.pairs) 0;
  had = replicate (callers_of c) [];
}

-- ---- frames at the applications

-- where an object may be opened so: each pool fits COMPLETION as well
pub record IsReturnable (c : Config) (frames : List Frame) : Type 0 where
  pub opened : IsOpened c frames
  pub fits : All (λ (p : PairInfo). pool_of c ≤ p.comp) c.pairs

-- As if all frames had just been sent: each pair's COMPLETION ring has the frames of its pool, FILL is empty, and all else
-- is as at the opening. With its first Peek and Release there an application has its frames. libxdp's programs begin with
-- all frames in their own hands.
abbrev pub returned : Config → List Frame → State
returned c frames = record {
  rings = replicate (length c.pairs) empty_ring ++ home_rings c.geometry (pool_of c) (length c.pairs) frames ++ replicate (2 * length c.sockets) empty_ring;
  marks = (opening c frames).marks;
  had = (opening c frames).had;
}
