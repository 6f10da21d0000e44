use Rattle.std.proofs.Common.{subst}
use Rattle.xsk_rings.specs.Rounds.{mine_of}
use Rattle.xsk_app.specs.Resumed.{IsResumed}
use Rattle.xsk_shared_ends.specs.Shown.{EndsShown, KeepsLanes}
use Rattle.xsk_shared_ends.proofs.Ending.{left, lanes}
use Rattle.xsk_shared_ends.proofs.ends.Ends.leave.Goals as goal

pub resume-requires-clause-lanes : goal.resume-requires-clause-lanes
resume-requires-clause-lanes c = (left _ c.self.invariant).lanes

pub returns-clause-app : goal.returns-clause-app
returns-clause-app c = subst (λ (e : EndsShown). IsResumed e.config e.app e.kept (mine_of e.pass) c.resume.result) c.self.view_is (c.resume.ensures.resumed (mine_of c.self.inside.pass) (left _ c.self.invariant))

pub returns-clause-lanes : goal.returns-clause-lanes
returns-clause-lanes c = subst KeepsLanes c.self.view_is (lanes _ c.self.invariant)
