use Rattle.std.proofs.Common.{Option, sym, ap, ◌∙◌}
use Rattle.xsk_turns.specs.Script.{begun}
use Rattle.xsk_turns.specs.AppTurns.{Shut, shut_of, look_acked, end_by, app_turn}
use Rattle.xsk_app.specs.Stands.{noted_by, kept_by}
use Rattle.xsk_app.proofs.Shutting.{shut_known, shut_none}
use Rattle.xsk_app.proofs.machine.Machine.end_turn.Goals as goal

pub returns-in-Some-clause-goes : goal.returns-in-Some-clause-goes
returns-in-Some-clause-goes c =
    let m = c.args.self.now in
    c.look_acked.ensures.goes
    ∙ ap (λ (o : Option Shut). begun (app_turn m.config.now m.app) (look_acked o (kept_by m) (end_by m.config.now m.app (noted_by m.turn)))) (sym (shut_known m.config.now m.app c.in-Some.socket (sym m.shut_is ∙ c.in-Some.is)))

pub returns-in-None-clause-goes : goal.returns-in-None-clause-goes
returns-in-None-clause-goes c =
    let m = c.args.self.now in
    c.end_by_facts.ensures.goes
    ∙ ap (λ (o : Option Shut). begun (app_turn m.config.now m.app) (look_acked o (kept_by m) (end_by m.config.now m.app (noted_by m.turn)))) (sym (shut_none (shut_of m.config.now m.app) (sym m.shut_is ∙ c.in-None.is)))
