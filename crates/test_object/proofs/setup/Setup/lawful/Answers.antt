use Rattle.std.proofs.Common.{sym, subst}
use Rattle.xsk_umem.specs.Geometry.{Geometry}
use Rattle.xsk_model.specs.Opening.{AreFrames}
use Rattle.test_object.proofs.setup.Setup.lawful.Goals as goal

pub returns-clause-frames : goal.returns-clause-frames
returns-clause-frames c = subst (λ (h : Geometry). AreFrames h c.args.frames.items) (sym c.in_ok-config.ensures) c.requires
