use Rattle.std.proofs.Common.{subst, sym}
use Rattle.xsk_machine.specs.Workers.{AreNew}
use Rattle.xsk_sim.proofs.simulation.seat_workers.Goals as goal

pub take_seats-requires-clause-new : goal.take_seats-requires-clause-new
take_seats-requires-clause-new c =
    let n = c.requires.new in (n.0, n.1, n.2, subst (AreNew n.0 0) (sym c.into_iter-drivers.ensures.rest) n.3)

pub returns : goal.returns
returns c s is manner new = c.in_ok-take_seats.ensures s is manner (subst (AreNew s 0) (sym c.into_iter-drivers.ensures.rest) new)
