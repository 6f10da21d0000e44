use Rattle.std.proofs.Common.{refl}
use Rattle.xsk_turns.specs.Stepping.{joined_ask}
use Rattle.xsk_driver.proofs.Bounces.{sends_other, sends_bounced, quiet_by}
use Rattle.xsk_driver.proofs.machine.Machine.step.Goals as goal

pub returns-in-TellBounced-clause-sends_first : goal.returns-in-TellBounced-clause-sends_first
returns-in-TellBounced-clause-sends_first c none =
    let gone = c.go_on_by.ensures in
    let act = joined_ask c.go_on_by.new.asked c.go_on_by.new.items in
    let first = gone.sends_first none in
    sends_bounced c.args.self.now c.go_on_by.new.self (record c.go_on_by.new.self { outbox = c.add.new.self }) act c.current-packet.result.now c.in-TellBounced.is gone.counts refl c.current-packet.ensures.packet
    (quiet_by c.args.self.now c.go_on_by.new.self act first.0 first.1) c.add.ensures.sends

pub returns-in-TellBounced-clause-sends : goal.returns-in-TellBounced-clause-sends
returns-in-TellBounced-clause-sends c r same =
    let gone = c.go_on_by.ensures in
    let act = joined_ask c.go_on_by.new.asked c.go_on_by.new.items in
    sends_bounced c.args.self.now c.go_on_by.new.self (record c.go_on_by.new.self { outbox = c.add.new.self }) act c.current-packet.result.now c.in-TellBounced.is gone.counts refl c.current-packet.ensures.packet
    (gone.sends r same) c.add.ensures.sends

pub returns-in_default-clause-sends_first : goal.returns-in_default-clause-sends_first
returns-in_default-clause-sends_first c none =
    let gone = c.go_on_by.ensures in
    let act = joined_ask c.go_on_by.new.asked c.go_on_by.new.items in
    let first = gone.sends_first none in
    sends_other c.args.self.now c.go_on_by.new.self act c.in_default.not-TellBounced gone.counts (quiet_by c.args.self.now c.go_on_by.new.self act first.0 first.1)

pub returns-in_default-clause-sends : goal.returns-in_default-clause-sends
returns-in_default-clause-sends c r same =
    let gone = c.go_on_by.ensures in
    let act = joined_ask c.go_on_by.new.asked c.go_on_by.new.items in
    sends_other c.args.self.now c.go_on_by.new.self act c.in_default.not-TellBounced gone.counts (gone.sends r same)
