use Rattle.std.proofs.Common.{subst}
use Rattle.xsk_rings.specs.Rounds.{mine_of}
use Rattle.xsk_turns.specs.AppSplit.{HasLeft}
use Rattle.xsk_shared_ends.specs.Shown.{EndsShown, KeepsLanes}
use Rattle.xsk_shared_ends.proofs.Ending.{left, lanes}
use Rattle.xsk_shared_ends.proofs.ends.Ends.keeps.Goals as goal

pub returns-clause-left : goal.returns-clause-left
returns-clause-left c = subst (λ (e : EndsShown). HasLeft e.config e.kept (mine_of e.pass)) c.self.view_is (left _ c.self.invariant)

pub returns-clause-lanes : goal.returns-clause-lanes
returns-clause-lanes c = subst KeepsLanes c.self.view_is (lanes _ c.self.invariant)
