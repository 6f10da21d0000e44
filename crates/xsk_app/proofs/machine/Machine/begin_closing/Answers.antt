use Rattle.std.proofs.Common.{rules, arith, ◌≡◌, true, false, ap, ◌∙◌}
use Rattle.xsk_turns.specs.Script.{begun}
use Rattle.xsk_turns.specs.AppTurns.{may_close, app_turn}
use Rattle.xsk_app.specs.Stands.{kept_by, shut_with}
use Rattle.xsk_app.proofs.Shutting.{shut_there, closes_now, closes_later}
use Rattle.xsk_app.proofs.machine.Machine.begin_closing.Goals as goal

pub lower_from-requires : goal.lower_from-requires
lower_from-requires c =
    let m = c.args.self.now in
    record { known = shut_there m.config.now m.app c.args.socket c.sockets-sockets.ensures.lawful c.requires.mine; index = omega arith }

pub returns-then-may_close-clause-goes : goal.returns-then-may_close-clause-goes
returns-then-may_close-clause-goes c =
    let m = c.args.self.now in
    let due : may_close m.config.now (shut_with m.config.now m.app c.args.socket) (kept_by m) ≡ true = search rules in
    c.lower_from.ensures.goes ∙ ap (begun (app_turn m.config.now m.app)) (closes_now m.config.now m.app c.args.socket (kept_by m) due)

pub returns-else-may_close-clause-goes : goal.returns-else-may_close-clause-goes
returns-else-may_close-clause-goes c =
    let m = c.args.self.now in
    let due : may_close m.config.now (shut_with m.config.now m.app c.args.socket) (kept_by m) ≡ false = search rules in
    c.begin_lanes.ensures.goes ∙ ap (begun (app_turn m.config.now m.app)) (closes_later m.config.now m.app c.args.socket (kept_by m) due)
