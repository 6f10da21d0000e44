use Rattle.std.proofs.Common.{arith, ◌<◌, ap, ◌∙◌}
use Rattle.xsk_turns.specs.AppTurns.{lanes_of}
use Rattle.xsk_app.specs.Stands.{kept_by, from_lane}
use Rattle.xsk_app.proofs.Shutting.{lanes_begin}
use Rattle.xsk_app.proofs.machine.Machine.begin_lanes.Goals as goal

pub returns-clause-goes : goal.returns-clause-goes
returns-clause-goes c =
    let m = c.args.self.now in
    let some : 0 < lanes_of m.config.now = omega (arith, m.classed) in
    c.open_lane.ensures.goes ∙ ap (λ n. from_lane m.config.now m.app 0 n (kept_by m)) c.first_turn-self.ensures ∙ lanes_begin m.config.now m.app (kept_by m) some
