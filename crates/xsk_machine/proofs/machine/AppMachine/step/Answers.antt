use Rattle.xsk_turns.specs.Stepping.{joined_ask}
use Rattle.xsk_turns.proofs.Fitting.{gift_suits}
use Rattle.xsk_machine.proofs.Acts.{app_after, app_own, app_has_none}
use Rattle.xsk_machine.proofs.machine.AppMachine.step.Goals as goal

pub returns-clause-begins : goal.returns-clause-begins
returns-clause-begins c s who is none =
    app_after s who c.args.self.now c.step.new.self (joined_ask c.step.new.asked c.step.new.items) _ is.config is.caller (app_has_none s c.args.self.now) c.step.ensures.same (c.step.ensures.begins s.manner s.config c.args.self.now.app is.is none)

pub returns-clause-goes_on : goal.returns-clause-goes_on
returns-clause-goes_on c s who l call r stands some may =
    app_after s who c.args.self.now c.step.new.self (joined_ask c.step.new.asked c.step.new.items) _ stands.config stands.caller
    (app_own s who c.args.self.now l call r stands.caller may) c.step.ensures.same
    (c.step.ensures.goes_on s.manner s.config c.args.self.now.app l call r stands.stands some (gift_suits s.config l who call r may))
