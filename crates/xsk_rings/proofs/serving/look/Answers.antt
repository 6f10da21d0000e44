use Rattle.xsk_model.specs.declared.call.Call.TheVariants.{Look}
use Rattle.xsk_model.specs.declared.call.Reply.TheVariants.{Old}
use Rattle.xsk_rings.proofs.Telling.{tells}
use Rattle.xsk_rings.proofs.serving.look.Goals as goal

pub returns-clause-told : goal.returns-clause-told
returns-clause-told c = tells c.args.pass.now c.look_step.new.self (Look c.args.mark) (Old c.look_step.result) c.requires.may.legal
    (record { table = c.look_step.ensures.same.0; who = c.look_step.ensures.same.1; rests = c.look_step.ensures.flight; history = c.look_step.ensures.history }) tt c.look_step.ensures.known
