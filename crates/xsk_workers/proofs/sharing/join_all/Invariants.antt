use Rattle.std.proofs.Common.{◌≡◌, [], map, All}
use Rattle.std.specs.Vec.Iter.{into_iter_items}
use Rattle.xsk_workers.specs.Sharing.{AreAll}
use Rattle.xsk_workers.proofs.sharing.join_all.Given as goal

abbrev pub invariant-loop-handle : goal.invariant-loop-handle
invariant-loop-handle g l = record {
  all : AreAll l.common.lock.now l.own [] (map (λ h. h.promise.hand.value) (into_iter_items l.handle-iterator));
  lock : All (λ h. h.promise.lock.value ≡ l.common.lock.now) (into_iter_items l.handle-iterator);
}
