use Rattle.std.proofs.Common.{◌≡◌, vec_len, vec_items, map, All}
use Rattle.xsk_workers.specs.Crew.{IsSeatOn}
use Rattle.xsk_workers.proofs.by_turns.finish.Given as goal

abbrev pub invariant-loop : goal.invariant-loop
invariant-loop g l =
    (goal.iterator-loop g).can_next l.iterator' × (goal.iterator-loop g).is_finite l.iterator'
    × All (λ w. IsSeatOn l.shared (g.W.Turns.seat w)) (vec_items l.members)
    × (map g.W.Turns.seat (vec_items l.members) ≡ map g.W.Turns.seat (vec_items l.initial.members))
    × (vec_len l.members ≡ vec_len l.initial.members)
