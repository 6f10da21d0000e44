use Rattle.std.proofs.Common.{length, ◌-◌}
use Rattle.xsk_rings.proofs.Looping.{Peeks}
use Rattle.xsk_rings.proofs.serving.peek.Given as goal

abbrev pub invariant-items : goal.invariant-items
invariant-items g l = Peeks l.fn.pass l.pass l.ring l.count l.found l.items

abbrev pub decreases-items : goal.decreases-items
decreases-items g l = l.found - length l.items
