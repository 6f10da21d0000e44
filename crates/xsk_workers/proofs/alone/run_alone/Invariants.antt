use Rattle.std.proofs.Common.{◌≡◌}
use Rattle.xsk_workers.specs.Crew.{IsSeatOn}
use Rattle.xsk_workers.proofs.alone.run_alone.Given as goal

abbrev pub invariant-loop : goal.invariant-loop
invariant-loop g l =
    (goal.iterator-loop g).can_next l.iterator' × (goal.iterator-loop g).is_finite l.iterator' × (g.W.Turns.seat l.worker ≡ g.W.Turns.seat l.initial.worker)
    × IsSeatOn l.initial.shared (g.W.Turns.seat l.worker)
