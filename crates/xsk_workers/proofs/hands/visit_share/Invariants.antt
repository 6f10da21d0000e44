use Rattle.xsk_workers.specs.Sharing.{Stays}
use Rattle.xsk_workers.specs.Visits.{WereVisited}
use Rattle.xsk_workers.proofs.hands.visit_share.Given as goal

abbrev pub invariant-loop-lane : goal.invariant-loop-lane
invariant-loop-lane g l = record {
  stays : Stays l.common.lock.now l.fn.hand l.hand;
  were : WereVisited g.T.Named.name l.common.lock.now g.T.Lanes.lane_came l.share l.lane l.came;
}
