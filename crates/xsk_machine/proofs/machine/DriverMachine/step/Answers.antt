use Rattle.xsk_turns.specs.Stepping.{joined_ask}
use Rattle.xsk_turns.proofs.Fitting.{gift_suits}
use Rattle.xsk_turns.specs.Workers.{input_of}
use Rattle.xsk_machine.proofs.Acts.{driver_after, room_stays}
use Rattle.xsk_machine.proofs.machine.DriverMachine.step.Goals as goal

pub returns-clause-begins : goal.returns-clause-begins
returns-clause-begins c s who is none =
    driver_after s who c.step.new.self (joined_ask c.step.new.next c.step.new.items) _ is.known (room_stays s who c.args.self.now c.step.new.self is.room c.step.ensures.sent_room)
    (c.step.ensures.begins s.wire s.config who (input_of s who) is.is none)

pub returns-clause-goes_on : goal.returns-clause-goes_on
returns-clause-goes_on c s who l call r stands some may =
    driver_after s who c.step.new.self (joined_ask c.step.new.next c.step.new.items) _ stands.known (room_stays s who c.args.self.now c.step.new.self stands.room c.step.ensures.sent_room)
    (c.step.ensures.goes_on s.wire s.config who (input_of s who) l call r stands.stands some (gift_suits s.config l who call r may))
