use Rattle.xsk_judge.proofs.Ready.{ready_for, ready_after, judged, why_not}
use Rattle.xsk_judge.proofs.Reasoning.{reason_of}
use Rattle.xsk_judge.proofs.judge.Judge.step.Goals as goal

pub judge-requires : goal.judge-requires
judge-requires c = ready_for c.args.setting.now c.args.self.now c.requires

pub returns-in-Ok-clause-ready : goal.returns-in-Ok-clause-ready
returns-in-Ok-clause-ready c =
    ready_after c.args.setting.now c.args.line c.args.self.now c.judge.new.self c.args.call.now c.requires c.in-Ok.ensures.ok.0 c.in-Ok.ensures.ok.1 c.in-Ok.ensures.ok.2

pub returns-in-Ok-clause-stands : goal.returns-in-Ok-clause-stands
returns-in-Ok-clause-stands c =
    judged c.args.setting.now c.args.line c.args.self.now c.judge.new.self c.args.call.now c.requires c.in-Ok.ensures.ok.0 c.in-Ok.ensures.ok.1 c.in-Ok.ensures.ok.2

pub returns-in-Err-clause-why : goal.returns-in-Err-clause-why
returns-in-Err-clause-why c = why_not c.args.setting.now c.args.line c.args.self.now c.args.call.now c.in-Err.why c.in-Err.ensures.why

pub returns-in-Err-clause-reason : goal.returns-in-Err-clause-reason
returns-in-Err-clause-reason c =
    reason_of c.args.setting.now c.args.line c.args.self.now c.args.call.now c.in-Err.why (ready_for c.args.setting.now c.args.self.now c.requires) c.in-Err.ensures.why
