use Rattle.xsk_workers.proofs.Sitting.{named_belongs}
use Rattle.xsk_workers.proofs.team.EndsLanes.look.Goals as goal

pub inputs_done-requires : goal.inputs_done-requires
inputs_done-requires c = named_belongs c.args.shared.now c.args.self.now c.requires.on
