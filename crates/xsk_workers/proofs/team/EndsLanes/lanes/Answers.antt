use Rattle.std.proofs.Common.{sym, ◌∙◌}
use Rattle.xsk_workers.proofs.Sitting.{named_lanes}
use Rattle.xsk_workers.proofs.team.EndsLanes.lanes.Goals as goal

pub returns : goal.returns
returns c = c.lanes.ensures ∙ sym (named_lanes c.args.self.now c.keeps.ensures.ends)
