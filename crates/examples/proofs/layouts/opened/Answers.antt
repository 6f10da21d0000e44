use Rattle.std.proofs.Common.{◌≡◌, ap, arith}
use Rattle.xsk_umem.specs.Geometry.{Geometry}
use Rattle.xsk_socket.specs.Layout.{geometry_of}
use Rattle.xsk_model.proofs.Opened.{fresh-frames}
use Rattle.examples.proofs.layouts.opened.Goals as goal

pub returns-clause-frames : goal.returns-clause-frames
returns-clause-frames c =
    let same : c.in_ok-geometry.geometry.frames ≡ c.args.layout.now.frames = grind (arith, c.if-frames-layout.false, c.frames.ensures.value) in
    let divided = ap (λ (g : Geometry). g.frames) c.in_ok-geometry.ensures.geometry in
    rw (c.in_ok-config.ensures.value, c.in_ok-geometry.ensures.frames, ← divided, same) (fresh-frames (geometry_of c.args.layout.now))
