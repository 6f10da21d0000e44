use Rattle.std.proofs.Common.{◌≡◌, ◌+◌, ◌++◌, vec_len, vec_items, vec_capacity, map}
use Rattle.std.specs.Vec.Iter.{into_iter_items, into_iter_len}
use Rattle.xsk_workers.proofs.crew.join_all.Given as goal

abbrev pub invariant-loop-handle : goal.invariant-loop-handle
invariant-loop-handle g l =
    (map g.W.Turns.seat (vec_items l.done) ++ map (λ h. g.W.Turns.seat h.promise.member.value) (into_iter_items l.handle-iterator)
    ≡ map g.W.Turns.seat (vec_items l.fn.done) ++ map (λ h. g.W.Turns.seat h.promise.member.value) (vec_items l.fn.handles))
    × (vec_len l.done + into_iter_len l.handle-iterator ≡ vec_len l.fn.done + vec_len l.fn.handles)
    × (vec_capacity l.done ≡ vec_capacity l.fn.done)
