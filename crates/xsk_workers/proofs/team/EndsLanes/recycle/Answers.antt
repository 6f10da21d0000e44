use Rattle.xsk_workers.proofs.Sitting.{named_belongs}
use Rattle.xsk_workers.proofs.team.EndsLanes.recycle.Goals as goal

pub recycle-requires-clause-belongs : goal.recycle-requires-clause-belongs
recycle-requires-clause-belongs c = named_belongs c.args.shared.now c.args.self.now c.requires.on
