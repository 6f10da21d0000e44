use Rattle.std.proofs.Common.{◌≡◌}
use Rattle.xsk_lock.specs.Rule.{mine}
use Rattle.xsk_workers.specs.Sharing.{IsFree}
use Rattle.xsk_workers.proofs.hands.take.Given as goal

abbrev pub invariant-loop : goal.invariant-loop
invariant-loop g l = record {
  can : (goal.iterator-loop g).can_next l.iterator';
  ends : (goal.iterator-loop g).is_finite l.iterator';
  free : IsFree l.common.lock.now l.hand;
  mine : mine l.hand.view ≡ mine l.fn.hand.view;
}
