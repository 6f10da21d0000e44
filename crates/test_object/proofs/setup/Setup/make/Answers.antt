use Rattle.std.proofs.Common.{◌≡◌, List, ap, sym, subst, ◌∙◌}
use Rattle.xsk_umem.specs.Frame.{Frame}
use Rattle.xsk_umem.specs.Geometry.{Geometry}
use Rattle.xsk_umem.specs.Registration.{fresh}
use Rattle.xsk_model.specs.Opening.{AreFrames}
use Rattle.xsk_model.proofs.Opened.{fresh-frames}
use Rattle.test_object.proofs.setup.Setup.make.Goals as goal

-- the frames of a registration are all frames of its geometry
are_frames : (g : Geometry) (fs : List Frame) → fs ≡ fresh g.chunk g.frames → AreFrames g fs
are_frames g fs items = subst (AreFrames g) (sym items) (fresh-frames g)

pub lawful-requires : goal.lawful-requires
lawful-requires c = are_frames _ _ (ap (λ f. f.items) c.in-Ok.ensures.frames ∙ sym (ap (λ (h : Geometry). fresh h.chunk h.frames) c.in-Ok.ensures.geometry))
