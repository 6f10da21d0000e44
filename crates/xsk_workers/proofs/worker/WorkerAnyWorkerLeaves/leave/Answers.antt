use Rattle.std.proofs.Common.{Some}
use Rattle.xsk_workers.proofs.worker.WorkerAnyWorkerLeaves.leave.Goals as goal

pub keep-requires-clause-figures : goal.keep-requires-clause-figures
keep-requires-clause-figures g c = (c.requires.room (Some c.into_parts-machine.result.0) c.into_parts-machine.ensures.stands).figures

pub keep-requires-clause-sent : goal.keep-requires-clause-sent
keep-requires-clause-sent g c = (c.requires.room (Some c.into_parts-machine.result.0) c.into_parts-machine.ensures.stands).sent

pub returns-clause-kept : goal.returns-clause-kept
returns-clause-kept g c = (
  Some c.into_parts-machine.result.0,
  c.into_parts-machine.ensures.stands,
  record { room = c.keep.ensures.room; figures = c.keep.ensures.figures; sent = c.keep.ensures.sent },
)
