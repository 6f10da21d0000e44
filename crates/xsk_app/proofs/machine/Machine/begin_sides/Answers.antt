use Rattle.std.proofs.Common.{ap, ◌∙◌}
use Rattle.xsk_turns.specs.AppTurns.{turn_sides}
use Rattle.xsk_app.specs.Stands.{kept_by}
use Rattle.xsk_app.proofs.machine.Machine.begin_sides.Goals as goal

pub returns-clause-goes : goal.returns-clause-goes
returns-clause-goes c =
    let m = c.args.self.now in
    c.open_side.ensures.goes ∙ ap (λ n. turn_sides m.config.now m.app n (kept_by m)) c.first_turn-self.ensures
