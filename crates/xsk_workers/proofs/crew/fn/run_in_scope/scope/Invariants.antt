use Rattle.std.proofs.Common.{◌≡◌, ◌+◌, ◌≤◌, [], ◌++◌, vec_len, vec_items, vec_capacity, map, All}
use Rattle.std.specs.Vec.Iter.{into_iter_items, into_iter_len}
use Rattle.xsk_workers.specs.Crew.{IsSeatOn}
use Rattle.xsk_workers.proofs.crew.fn.run_in_scope.scope.Given as goal

-- those that were started, those that weren't, and those that are left, in their order
abbrev pub invariant-loop-worker : goal.invariant-loop-worker
invariant-loop-worker g l =
    let rest = l.worker-iterator in
    (goal.iterator-loop-worker g).can_next rest × (goal.iterator-loop-worker g).is_finite rest
    × ((map (λ h. g.W.Turns.seat h.promise.member.value) (vec_items l.handles) ++ map g.W.Turns.seat (vec_items l.unrun))
    ++ map g.W.Turns.seat (into_iter_items rest) ≡ map g.W.Turns.seat (vec_items l.crew-inside.workers))
    × All (λ w. IsSeatOn l.crew-inside.shared.value (g.W.Turns.seat w)) (into_iter_items rest)
    × (vec_len l.handles + into_iter_len rest ≤ vec_capacity l.handles)
    × (vec_len l.unrun + into_iter_len rest ≤ vec_capacity l.unrun)
    × (vec_len l.handles + vec_len l.unrun + into_iter_len rest ≤ vec_capacity l.done)
    × (vec_items l.done ≡ [])
    × All (λ w. IsSeatOn l.crew-inside.shared.value (g.W.Turns.seat w)) (vec_items l.unrun)
