use Rattle.std.proofs.Common.{◌≡◌, ◌+◌, ◌≤◌, ◌++◌, vec_len, vec_items, vec_capacity, map}
use Rattle.std.specs.Vec.Iter.{into_iter_items, into_iter_len}
use Rattle.xsk_workers.proofs.crew.gather.Given as goal

abbrev pub invariant-loop-worker : goal.invariant-loop-worker
invariant-loop-worker g l =
    (map g.W.Turns.seat (vec_items l.done) ++ map g.W.Turns.seat (into_iter_items l.worker-iterator)
    ≡ map (λ h. g.W.Turns.seat h.promise.member.value) (vec_items l.fn.handles) ++ map g.W.Turns.seat (vec_items l.fn.unrun))
    × (vec_len l.done + into_iter_len l.worker-iterator ≤ vec_capacity l.done)
