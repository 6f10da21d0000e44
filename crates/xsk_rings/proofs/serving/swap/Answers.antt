use Rattle.xsk_model.specs.declared.call.Call.TheVariants.{Swap}
use Rattle.xsk_model.specs.declared.call.Reply.TheVariants.{Old}
use Rattle.xsk_rings.proofs.Telling.{tells}
use Rattle.xsk_rings.proofs.serving.swap.Goals as goal

pub returns-clause-told : goal.returns-clause-told
returns-clause-told c = tells c.args.pass.now c.swap_step.new.self (Swap c.args.mark c.args.value) (Old c.swap_step.result) c.requires.may.legal
    (record { table = c.swap_step.ensures.same.0; who = c.swap_step.ensures.same.1; rests = c.swap_step.ensures.flight; history = c.swap_step.ensures.history }) tt c.swap_step.ensures.known
