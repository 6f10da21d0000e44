use Rattle.std.proofs.Common.{◌≡◌, true}
use Rattle.xsk_workers.specs.Sharing.{Stays}
use Rattle.xsk_workers.specs.Visits.{CameOf}
use Rattle.xsk_workers.proofs.hands.run.Given as goal

abbrev pub invariant-loop : goal.invariant-loop
invariant-loop g l = record {
  can : (goal.iterator-loop g).can_next l.iterator';
  ends : (goal.iterator-loop g).is_finite l.iterator';
  stays : Stays l.common.lock.now l.fn.hand l.hand;
  told : l.told ≡ true → CameOf g.T.Named.name l.common.lock.now g.T.Lanes.marks_told true;
}
