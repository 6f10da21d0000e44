use Rattle.std.proofs.Common.{◌≡◌, ◌+◌, ◌≤◌, vec_len, vec_items, vec_capacity, map, All}
use Rattle.std.specs.Vec.Iter.{into_iter_items, into_iter_len}
use Rattle.xsk_workers.specs.Sharing.{AreAll}
use Rattle.xsk_workers.proofs.sharing.fn.run_all.scope.Given as goal

-- those that were started, and those that are left
abbrev pub invariant-loop-hand : goal.invariant-loop-hand
invariant-loop-hand g l = record {
  can : (goal.iterator-loop-hand g).can_next l.hand-iterator;
  ends : (goal.iterator-loop-hand g).is_finite l.hand-iterator;
  all : AreAll l.common.now.lock.now l.own (map (λ h. h.promise.hand.value) (vec_items l.handles)) (into_iter_items l.hand-iterator);
  lock : All (λ h. h.promise.lock.value ≡ l.common.now.lock.now) (vec_items l.handles);
  room : vec_len l.handles + into_iter_len l.hand-iterator ≤ vec_capacity l.handles;
}
