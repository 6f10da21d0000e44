use Rattle.std.proofs.Common.{rules, arith, ◌≡◌, ◌<◌, false, [], sym, ◌∙◌}
use Rattle.xsk_turns.specs.Stepping.{joined_ask}
use Rattle.xsk_turns.specs.AppTurns.{lanes_of}
use Rattle.xsk_app.specs.Stands.{kept_by}
use Rattle.xsk_app.proofs.Shutting.{begins_closing, begins_lanes}
use Rattle.xsk_app.proofs.machine.Machine.begin.Goals as goal

pub returns-in-Some-clause-goes : goal.returns-in-Some-clause-goes
returns-in-Some-clause-goes c =
    let m = c.args.self.now in
    let some : 0 < lanes_of m.config.now = omega (arith, m.classed) in
    let off : m.tx_done ≡ false = search rules in
    begins_closing m.config.now m.app c.begin_closing.new.self (joined_ask c.begin_closing.new.asked []) c.in-Some.socket (kept_by m) some off (sym m.shut_is ∙ c.in-Some.is) c.begin_closing.ensures.goes

pub returns-in-None-clause-goes : goal.returns-in-None-clause-goes
returns-in-None-clause-goes c =
    let m = c.args.self.now in
    let some : 0 < lanes_of m.config.now = omega (arith, m.classed) in
    let off : m.tx_done ≡ false = search rules in
    begins_lanes m.config.now m.app c.begin_lanes.new.self (joined_ask c.begin_lanes.new.asked []) (kept_by m) some off (sym m.shut_is ∙ c.in-None.is) c.begin_lanes.ensures.goes
