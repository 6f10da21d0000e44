use Rattle.std.proofs.Common.{sym, ap, ◌∙◌}
use Rattle.xsk_turns.specs.Script.{begun}
use Rattle.xsk_turns.specs.AppTurns.{app_turn}
use Rattle.xsk_app.specs.Stands.{noted_by, kept_by, after_full_side}
use Rattle.xsk_app.proofs.TurnLemmas.{give_back_full}
use Rattle.xsk_app.proofs.machine.Machine.find_fill_full.Goals as goal

pub returns-clause-goes : goal.returns-clause-goes
returns-clause-goes c =
    let m = c.args.self.now in
    let next = after_full_side m.config.now m.app c.args.side (noted_by m.turn) in
    λ free. c.go_on_full_side.ensures.goes
    ∙ ap (begun (app_turn m.config.now m.app)) (sym (give_back_full m.config.now c.args.side (kept_by m) next free c.requires.some))
