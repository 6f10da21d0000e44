use Rattle.std.proofs.Common.{ℕ, ◌<◌, subst}
use Rattle.xsk_workers.proofs.Sitting.{named_belongs, named_lanes}
use Rattle.xsk_workers.proofs.team.EndsLanes.visit.Goals as goal

pub lane-requires-clause-belongs : goal.lane-requires-clause-belongs
lane-requires-clause-belongs c = named_belongs c.args.shared.now c.args.self.now c.requires.on

pub lane-requires-clause-lane : goal.lane-requires-clause-lane
lane-requires-clause-lane c = subst (λ (n : ℕ). c.args.lane < n) (named_lanes c.args.self.now c.keeps.ensures.ends) c.requires.lane
