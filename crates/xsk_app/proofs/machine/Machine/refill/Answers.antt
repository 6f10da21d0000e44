use Rattle.std.proofs.Common.{arith, ◌≡◌, map, take, drop, List, [], ap, ◌∙◌}
use Rattle.xsk_turns.proofs.Object.{Geometry, Frame, home_item}
use Rattle.std.proofs.lemmas.List.{get_or_default}
use Rattle.xsk_turns.specs.AppTurns.{back_at}
use Rattle.xsk_app.specs.Stands.{noted_by, kept_by}
use Rattle.xsk_app.proofs.Steps.{submit_group}
use Rattle.xsk_app.proofs.machine.Machine.refill.Goals as goal

pub returns-clause-goes : goal.returns-clause-goes
returns-clause-goes c =
    let m = c.args.self.now in
    let n = c.args.count in
    let here : c.index_mut.result.now ≡ back_at (kept_by m) c.args.side =
    c.index_mut.ensures.value ∙ get_or_default m.backs.items c.args.side c.index_mut.result.now [] (omega (arith, c.requires.side, m.sides)) in
    let items = c.give.ensures.items
    ∙ ap (λ (g : Geometry). map (home_item g) (take n c.index_mut.result.now)) c.geometry.ensures.value
    ∙ ap (λ (b : List Frame). map (home_item m.config.now.geometry) (take n b)) here in
    let rest = c.give.ensures.left ∙ ap (λ (b : List Frame). drop n b) here in
    submit_group m.config.now m.app c.args.side (noted_by m.turn) (kept_by m) c.args.home c.args.count c.give.new.items c.give.new.self
    (omega (arith, c.requires.side, m.sides)) c.requires.group (omega (arith, m.some, m.batch_is)) items rest
