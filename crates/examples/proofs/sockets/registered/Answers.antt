use Rattle.xsk_model.proofs.Opened.{fresh-frames}
use Rattle.examples.proofs.sockets.registered.Goals as goal

pub returns : goal.returns
returns c = rw (c.in_ok-register.ensures.geometry, c.in_ok-register.ensures.frames) (fresh-frames _)
