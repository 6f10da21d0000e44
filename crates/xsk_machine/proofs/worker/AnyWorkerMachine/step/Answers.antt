use Rattle.std.proofs.Common.{subst}
use Rattle.xsk_model.specs.declared.call.Act.TheVariants.{Call as Calls}
use Rattle.xsk_machine.specs.Workers.{IsNew, Stands}
use Rattle.xsk_machine.specs.declared.worker.AnyWorker.{AnyWorker}
use Rattle.xsk_machine.proofs.worker.AnyWorkerMachine.step.Goals as goal

pub returns-in-Driver-clause-goes_on : goal.returns-in-Driver-clause-goes_on
returns-in-Driver-clause-goes_on c s who l call r stands some may = c.step.ensures.goes_on s who l call r (subst (λ (w : AnyWorker). Stands s who w (Calls call) l) c.in-Driver.is stands) some may

pub returns-in-App-clause-begins : goal.returns-in-App-clause-begins
returns-in-App-clause-begins c s who is none = c.step-in-App.ensures.begins s who (subst (λ (w : AnyWorker). IsNew s who w) c.in-App.is is) none

pub returns-in-App-clause-goes_on : goal.returns-in-App-clause-goes_on
returns-in-App-clause-goes_on c s who l call r stands some may = c.step-in-App.ensures.goes_on s who l call r (subst (λ (w : AnyWorker). Stands s who w (Calls call) l) c.in-App.is stands) some may
