use Rattle.std.proofs.Common.{refl, subst}
use Rattle.xsk_model.specs.Expected.{CanCome}
use Rattle.xsk_model.specs.declared.call.Reply.TheVariants.{Submitted, Old}
use Rattle.xsk_turns.specs.Stepping.{joined_answer}
use Rattle.xsk_app.specs.Waits.{expects}
use Rattle.xsk_app.specs.declared.machine.Wait.TheVariants.{LowerCell, SubmitFill}
use Rattle.xsk_app.proofs.Steps.{number_came, submitted_came, goes_bare}
use Rattle.xsk_app.proofs.machine.Machine.step.Goals as goal

pub returns-in-LowerCell-default-clause-goes : goal.returns-in-LowerCell-default-clause-goes
returns-in-LowerCell-default-clause-goes c =
    let answer = joined_answer c.args.answer c.args.items.now in
    let came = number_came answer (subst (λ w. CanCome (expects w) answer) c.in-LowerCell-default.is-0 c.requires.comes) in
    goes_bare c.args.self.now c.lower_from.new.self c.args.answer c.args.items.now c.lower_from.new.asked (LowerCell c.in-LowerCell-default.socket c.in-LowerCell-default.index) (Old came.0) c.in-LowerCell-default.is-0 came.1 refl
    c.requires.lent c.lower_from.ensures.goes

pub returns-in-SubmitFill-default-clause-goes : goal.returns-in-SubmitFill-default-clause-goes
returns-in-SubmitFill-default-clause-goes c =
    let answer = joined_answer c.args.answer c.args.items.now in
    let came = submitted_came answer (subst (λ w. CanCome (expects w) answer) c.in-SubmitFill-default.is-0 c.requires.comes) in
    goes_bare c.args.self.now c.wake.new.self c.args.answer c.args.items.now c.wake.new.asked (SubmitFill c.in-SubmitFill-default.side c.in-SubmitFill-default.home) Submitted c.in-SubmitFill-default.is-0 came refl
    c.requires.lent c.wake.ensures.goes
