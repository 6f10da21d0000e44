use Rattle.std.proofs.Common.{length}
use Rattle.xsk_rings.proofs.Looping.{Submits}
use Rattle.xsk_rings.proofs.serving.submit.Given as goal

abbrev pub invariant-items : goal.invariant-items
invariant-items l = Submits l.fn.pass l.pass l.ring l.fn.items l.items

abbrev pub decreases-items : goal.decreases-items
decreases-items l = length l.items
