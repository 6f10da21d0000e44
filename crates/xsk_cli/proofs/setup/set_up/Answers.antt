use Rattle.std.proofs.Common.{sym, subst}
use Rattle.xsk_model.specs.Opening.{AreFrames}
use Rattle.xsk_plain.proofs.Legality.{fresh_are_frames}
use Rattle.xsk_socket.specs.Layout.{geometry_of}
use Rattle.xsk_cli.proofs.setup.set_up.Goals as goal

pub returns-clause-known : goal.returns-clause-known
returns-clause-known c = subst (AreFrames (geometry_of c.args.layout.now)) (sym c.in_ok-geometry.ensures.frames) (fresh_are_frames (geometry_of c.args.layout.now))
